use Rattle.std.proofs.Common.{◌∙◌, rules}
use Rattle.lms_hss.proofs.Headers.{count_goes, count_stops}
use Rattle.lms_hss.proofs.ReadLaws.{read_then}
use Rattle.lms_hss.proofs.opening.count_bound.Goals as goal

pub returns-then-not-branch-clause-count : goal.returns-then-not-branch-clause-count
returns-then-not-branch-clause-count g c = count_stops _ _ c.args.most c.loop-leaf.leaf c.in_ok-is_bound.field-0 c.loop-leaf.invariant.reads.same (search rules) c.loop-leaf.invariant.told c.in_ok-is_bound.ensures.bound

pub loop-leaf-preserved : goal.loop-leaf-preserved
loop-leaf-preserved g c = record {
  told = count_goes _ _ c.args.most c.loop-leaf.leaf c.in_ok-is_bound.field-0 c.loop-leaf.invariant.reads.same c.loop-leaf-test.true (search rules) c.loop-leaf.invariant.told c.in_ok-is_bound.ensures.bound;
  reads = read_then g.D.Disk.seen g.D.Disk.may_leave g.D.Disk.moment g.D.Disk.left_since _ _ _ c.loop-leaf.invariant.reads c.is_bound.ensures.reads;
  faults = c.in_ok-is_bound.ensures.faults ∙ c.loop-leaf.invariant.faults;
}
