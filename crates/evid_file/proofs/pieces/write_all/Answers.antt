use Rattle.std.proofs.Common.{rules}
use Rattle.evid_file.proofs.Joined.{grows, breaks, leaves_err}
use Rattle.evid_file.proofs.pieces.write_all.Goals as goal

pub loop-left-preserved : goal.loop-left-preserved
loop-left-preserved g c =
    let w = c.loop-left.invariant.written in
    record {
      counts = search rules;
      others = search rules;
      written = grows _ _ _ w.0 _ c.loop-left.left.now _ w.1 c.in_ok-append.ensures.added c.in-len1-up.len_at_least w.2;
    }

pub returns-in_err-append-clause-leaves : goal.returns-in_err-append-clause-leaves
returns-in_err-append-clause-leaves g c =
    let w = c.loop-left.invariant.written in
    leaves_err _ _ _ _ c.from_residual-in_err-append.ensures.0
    (breaks _ _ _ w.0 _ c.loop-left.left.now _ w.1 c.in_err-append.ensures.failed c.in-len1-up.len_at_least w.2)
