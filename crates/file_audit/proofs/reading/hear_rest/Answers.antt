use Rattle.std.proofs.Common.{Some, None, IfSome, rules, arith}
use Rattle.avm_outside.specs.Files.{Reads}
use Rattle.file_audit.proofs.Pieces.{heard_more, heard_end, heard_gone, heard_past}
use Rattle.file_audit.proofs.reading.hear_rest.Goals as goal

pub loop-at-preserved : goal.loop-at-preserved
loop-at-preserved g c =
    let read : IfSome (g.F.Files.file c.loop-at.files c.args.name.now) (λ was. Reads was c.loop-at.at c.loop-at.buf c.read_at.new.buf (Some c.in-Ok-Some.n)) = search rules in
    record {
      same = search rules;
      counts = search rules;
      begun = search rules;
      keep = search rules;
      some = omega arith;
      heard = λ key auths image so. heard_more _ _ c.loop-at.at c.in-Ok-Some.n c.loop-at.buf c.read_at.new.buf _ key auths image c.loop-at.hearing c.feed.new.self (c.loop-at.invariant.same c.args.name.now) (search rules) (search rules) read c.in_ok-feed-in-Ok-Some.ensures.heard (c.loop-at.invariant.heard key auths image so);
    }

pub returns-in-Ok-None-clause-heard : goal.returns-in-Ok-None-clause-heard
returns-in-Ok-None-clause-heard g c =
    let read : IfSome (g.F.Files.file c.loop-at.files c.args.name.now) (λ was. Reads was c.loop-at.at c.loop-at.buf c.read_at.new.buf None) = search rules in
    λ key auths image so. heard_gone _ _ c.loop-at.at c.loop-at.buf c.read_at.new.buf key auths image c.loop-at.hearing (c.loop-at.invariant.same c.args.name.now) c.loop-at.invariant.some read (c.loop-at.invariant.heard key auths image so)

pub returns-in-Ok-Some-eq0-clause-heard : goal.returns-in-Ok-Some-eq0-clause-heard
returns-in-Ok-Some-eq0-clause-heard g c =
    let read : IfSome (g.F.Files.file c.loop-at.files c.args.name.now) (λ was. Reads was c.loop-at.at c.loop-at.buf c.read_at.new.buf (Some 0)) = search rules in
    λ key auths image so. heard_end _ _ c.loop-at.at c.loop-at.buf c.read_at.new.buf key auths image c.loop-at.hearing (c.loop-at.invariant.same c.args.name.now) c.loop-at.invariant.some (search rules) read (c.loop-at.invariant.heard key auths image so)

pub returns-clause-heard : goal.returns-clause-heard
returns-clause-heard g c = λ key auths image so. heard_past _ c.loop-at.at key auths image c.loop-at.hearing (omega arith) (c.loop-at.invariant.heard key auths image so)
