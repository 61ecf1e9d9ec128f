use Rattle.std.proofs.Common.{◌≡◌, length}
use Rattle.avm_outside.specs.DiskLog.{upto, extent_after, settled}
use Rattle.avm_outside.specs.DiskEvents.{extent_view}
use Rattle.avm_outside.proofs.states.reach_upto.Given as goal

abbrev pub invariant-loop-left : goal.invariant-loop-left
invariant-loop-left l = upto extent_after l.calls (extent_view l.reach) l.left ≡ upto extent_after l.calls (settled l.fn.base) l.fn.log

abbrev pub decreases-loop-left : goal.decreases-loop-left
decreases-loop-left l = length l.left
