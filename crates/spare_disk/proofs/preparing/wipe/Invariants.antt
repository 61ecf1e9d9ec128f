use Rattle.std.proofs.Common.{◌-◌, ◌≡◌, ◌⊎◌, ◌^◌, ◌≤◌, length, IfSome, min}
use Rattle.avm_outside.specs.Outside.{BothTold}
use Rattle.avm_outside.specs.Moments.{LeavesOnly}
use Rattle.base_model.specs.Spare.{IsBlank}
use Rattle.spare_disk.specs.Activating.{Each}
use Rattle.spare_disk.specs.Preparing.{IsWiped}
use Rattle.spare_disk.proofs.preparing.wipe.Given as goal

abbrev pub invariant-loop-at : goal.invariant-loop-at
invariant-loop-at g l = record {
  low : l.fn.from ≤ l.at;
  high : (l.at ≤ l.end) ⊎ (l.at ≡ l.fn.from);
  end_is : l.end ≡ min l.fn.len (2 ^ 31);
  within : IfSome (g.E.Disk.seen l.spare) (λ now. l.fn.len ≤ length now);
  wiped : BothTold (g.E.Disk.seen l.fn.spare) (g.E.Disk.seen l.spare) (IsWiped l.fn.from l.at);
  blank : Each (g.E.Disk.may_leave l.fn.spare) IsBlank → Each (g.E.Disk.may_leave l.spare) IsBlank;
  any_moment : Each (g.E.Disk.may_leave l.fn.spare) IsBlank → LeavesOnly g.E.Disk.moment g.E.Disk.left_since l.fn.spare l.spare IsBlank;
  faults : g.E.Disk.faults l.spare ≡ g.E.Disk.faults l.fn.spare;
}

abbrev pub decreases-loop-at : goal.decreases-loop-at
decreases-loop-at g l = l.end - l.at
