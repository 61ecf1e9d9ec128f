use Rattle.std.proofs.Common.{◌∙◌}
use Rattle.lms_hss.proofs.ReadLaws.{found_here, goes_past, read_then}
use Rattle.lms_hss.proofs.reading.find.Goals as goal

pub returns-then-branch-clause-found : goal.returns-then-branch-clause-found
returns-then-branch-clause-found g c =
    found_here _ _ c.args.count c.loop-leaf.leaf c.args.bottom.now c.in_ok-stands.field-0 c.loop-leaf.invariant.reads.same c.loop-leaf-test.true c.if-branch.true c.loop-leaf.invariant.told c.in_ok-stands.ensures.there

pub loop-leaf-preserved : goal.loop-leaf-preserved
loop-leaf-preserved g c = record {
  told = goes_past _ _ c.args.count c.loop-leaf.leaf c.args.bottom.now c.in_ok-stands.field-0 c.loop-leaf.invariant.reads.same c.loop-leaf-test.true c.if-branch.false c.loop-leaf.invariant.told c.in_ok-stands.ensures.there;
  reads = read_then g.D.Disk.seen g.D.Disk.may_leave g.D.Disk.moment g.D.Disk.left_since _ _ _ c.loop-leaf.invariant.reads c.stands.ensures.reads;
  faults = c.in_ok-stands.ensures.faults ∙ c.loop-leaf.invariant.faults;
}
