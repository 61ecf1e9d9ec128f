use Rattle.std.proofs.Common.{arith}
use Rattle.log_entry.specs.Views.{content_view}
use Rattle.base_carried.specs.Rows.{noted}
use Rattle.base_carried.proofs.Noting.{noted_all, noted_next}
use Rattle.base_carried.proofs.finding.note.Goals as goal

pub loop-at-preserved : goal.loop-at-preserved
loop-at-preserved c =
    let lt = c.loop-at-test.true in
    let same = c.loop-at.auto.rows in
    record {
      rows = noted_next (noted c.args.seq (content_view c.args.content)) c.loop-at.at c.args.rows.now c.loop-at.rows _ c.with.result c.loop-at.invariant.rows (omega (arith, lt, same)) c.with.ensures;
      few = omega (arith, lt, same);
    }

pub returns : goal.returns
returns c =
    let past = c.loop-at-test.false in
    let same = c.loop-at.auto.rows in
    noted_all (noted c.args.seq (content_view c.args.content)) c.loop-at.at c.args.rows.now c.loop-at.rows c.loop-at.invariant.rows (omega (arith, past, same)) c.loop-at.invariant.few
