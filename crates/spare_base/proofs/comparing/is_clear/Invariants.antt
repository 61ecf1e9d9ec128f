use Rattle.std.proofs.Common.{◌-◌, ◌≡◌, ◌≤◌, ℕ, List, IfSome}
use Rattle.avm_outside.specs.Moments.{LeavesOnly}
use Rattle.spare_base.specs.Kinds.{HasZeros}
use Rattle.spare_base.proofs.comparing.is_clear.Given as goal

abbrev pub invariant-loop-at : goal.invariant-loop-at
invariant-loop-at g l = record {
  low : l.fn.from ≤ l.at;
  told : IfSome (g.E.Disk.seen l.fn.spare) (HasZeros l.fn.from l.at);
  same : g.E.Disk.seen l.spare ≡ g.E.Disk.seen l.fn.spare;
  crash : (c : List ℕ) → g.E.Disk.may_leave l.spare c → g.E.Disk.may_leave l.fn.spare c;
  any_moment : LeavesOnly g.E.Disk.moment g.E.Disk.left_since l.fn.spare l.spare (g.E.Disk.may_leave l.fn.spare);
  faults : g.E.Disk.faults l.spare ≡ g.E.Disk.faults l.fn.spare;
}

abbrev pub decreases-loop-at : goal.decreases-loop-at
decreases-loop-at g l = l.fn.end - l.at
