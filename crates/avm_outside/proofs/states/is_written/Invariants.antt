use Rattle.std.proofs.Common.{◌≡◌, length, map}
use Rattle.avm_outside.specs.DiskLog.{is_covered}
use Rattle.avm_outside.specs.DiskEvents.{range_view}
use Rattle.avm_outside.proofs.states.is_written.Given as goal

abbrev pub invariant-loop-left : goal.invariant-loop-left
invariant-loop-left l = is_covered l.place (map range_view l.left) ≡ is_covered l.place (map range_view l.fn.ranges)

abbrev pub decreases-loop-left : goal.decreases-loop-left
decreases-loop-left l = length l.left
