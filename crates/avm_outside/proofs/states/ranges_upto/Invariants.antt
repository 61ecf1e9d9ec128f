use Rattle.std.proofs.Common.{◌≡◌, [], length, map}
use Rattle.avm_outside.specs.DiskLog.{upto, ranges_after}
use Rattle.avm_outside.specs.DiskEvents.{range_view}
use Rattle.avm_outside.proofs.states.ranges_upto.Given as goal

abbrev pub invariant-loop-left : goal.invariant-loop-left
invariant-loop-left l = upto ranges_after l.calls (map range_view l.ranges.items) l.left ≡ upto ranges_after l.calls [] l.fn.log

abbrev pub decreases-loop-left : goal.decreases-loop-left
decreases-loop-left l = length l.left
