use Rattle.std.proofs.Common.{◌≡◌, length}
use Rattle.avm_outside.specs.DiskLog.{upto, read_after}
use Rattle.avm_outside.proofs.states.bytes_upto.Given as goal

abbrev pub invariant-loop-left : goal.invariant-loop-left
invariant-loop-left l = upto read_after l.calls l.bytes.items l.left ≡ upto read_after l.calls l.fn.base l.fn.log

abbrev pub decreases-loop-left : goal.decreases-loop-left
decreases-loop-left l = length l.left
