use Rattle.std.proofs.Common.{◌≡◌, length}
use Rattle.avm_script.specs.Script.{script_at}
use Rattle.avm_script.specs.Readings.{sofar}
use Rattle.avm_script.proofs.Joining.{rest_of}
use Rattle.avm_script.proofs.script.Script.read.Given as goal

abbrev pub invariant-loop-text : goal.invariant-loop-text
invariant-loop-text l = rest_of (sofar l.reading) l.rest ≡ script_at l.fn.bytes

abbrev pub decreases-loop-text : goal.decreases-loop-text
decreases-loop-text l = length l.rest
