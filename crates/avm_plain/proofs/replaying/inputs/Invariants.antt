use Rattle.std.proofs.Common.{◌≡◌, ◌++◌, map, drop}
use Rattle.avm_model.specs.Timed.{inputs}
use Rattle.avm_plain.specs.Replay.{given_of, entry_of}
use Rattle.avm_plain.proofs.replaying.inputs.Given as goal

abbrev pub invariant-loop-entry : goal.invariant-loop-entry
invariant-loop-entry l = map given_of l.inputs.items ++ inputs (map entry_of (drop l.entry-index l.entries)) ≡ inputs (map entry_of l.entries)
