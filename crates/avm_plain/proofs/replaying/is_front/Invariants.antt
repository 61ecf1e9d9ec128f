use Rattle.std.proofs.Common.{map, drop, ◌↔◌}
use Rattle.avm_plain.specs.Replay.{entry_of}
use Rattle.avm_plain.specs.Part.{Opens}
use Rattle.avm_plain.proofs.replaying.is_front.Given as goal

abbrev pub invariant-loop-i : goal.invariant-loop-i
invariant-loop-i l = Opens (map entry_of l.entries) (map entry_of l.run) ↔ Opens (map entry_of (drop l.i l.entries)) (map entry_of (drop l.i l.run))
