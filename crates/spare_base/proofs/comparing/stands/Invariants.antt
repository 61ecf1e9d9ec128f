use Rattle.std.proofs.Common.{◌-◌, ◌≡◌, ◌≤◌, ℕ, List, length, take, drop, IfSome}
use Rattle.avm_outside.specs.Moments.{LeavesOnly}
use Rattle.spare_base.proofs.comparing.stands.Given as goal

abbrev pub invariant-loop-done : goal.invariant-loop-done
invariant-loop-done g l = record {
  low : l.done ≤ length l.fn.bytes;
  told : IfSome (g.E.Disk.seen l.fn.spare) (λ was. take l.done (drop l.fn.at was) ≡ take l.done l.fn.bytes);
  same : g.E.Disk.seen l.spare ≡ g.E.Disk.seen l.fn.spare;
  crash : (c : List ℕ) → g.E.Disk.may_leave l.spare c → g.E.Disk.may_leave l.fn.spare c;
  any_moment : LeavesOnly g.E.Disk.moment g.E.Disk.left_since l.fn.spare l.spare (g.E.Disk.may_leave l.fn.spare);
  faults : g.E.Disk.faults l.spare ≡ g.E.Disk.faults l.fn.spare;
}

abbrev pub decreases-loop-done : goal.decreases-loop-done
decreases-loop-done g l = length l.fn.bytes - l.done
