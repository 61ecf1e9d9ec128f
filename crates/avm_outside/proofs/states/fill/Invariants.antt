use Rattle.std.proofs.Common.{◌≡◌, ◌≤◌, ◌-◌, ◌++◌, map}
use Rattle.avm_outside.specs.DiskLog.{image_from}
use Rattle.avm_outside.specs.DiskEvents.{range_view}
use Rattle.avm_outside.proofs.states.fill.Given as goal

abbrev pub invariant-loop-place : goal.invariant-loop-place
invariant-loop-place l = record {
  within : l.place ≤ l.fn.len;
  so_far : l.image.items ++ image_from l.bytes (map range_view l.ranges) l.least l.place (l.len - l.place) l.left ≡ image_from l.bytes (map range_view l.ranges) l.least 0 l.len l.fn.choice;
}

abbrev pub decreases-loop-place : goal.decreases-loop-place
decreases-loop-place l = l.fn.len - l.place
