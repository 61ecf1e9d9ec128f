use Rattle.std.proofs.Common.{◌≡◌, map, drop}
use Rattle.avm_model.specs.Timed.{last_count}
use Rattle.avm_plain.specs.Replay.{plain, entry_of}
use Rattle.avm_plain.proofs.replaying.last_count.Given as goal

abbrev pub invariant-loop-entry : goal.invariant-loop-entry
invariant-loop-entry l = last_count plain l.count (map entry_of (drop l.entry-index l.entries)) ≡ last_count plain 0 (map entry_of l.entries)
