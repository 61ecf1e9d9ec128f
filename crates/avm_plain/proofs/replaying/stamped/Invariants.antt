use Rattle.std.proofs.Common.{◌≡◌, map}
use Rattle.avm_plain.specs.Step.{output_of}
use Rattle.avm_plain.specs.Replay.{entry_of, stamped}
use Rattle.avm_plain.proofs.replaying.stamped.Given as goal

abbrev pub invariant-loop-output : goal.invariant-loop-output
invariant-loop-output l = map entry_of l.entries.items ≡ stamped l.count (map output_of l.yielded)
