use Rattle.std.proofs.Common.{◌≡◌, ◌++◌, drop}
use Rattle.std.specs.Int.{w32, to_le_bytes}
use Rattle.avm_num.specs.Lists.{list_bytes}
use Rattle.sample_parts.proofs.nodes.add_words.Given as goal

abbrev pub invariant-loop-word : goal.invariant-loop-word
invariant-loop-word l = l.bytes.items ++ list_bytes (to_le_bytes w32) (drop l.word-index l.words) ≡ l.fn.bytes.items ++ list_bytes (to_le_bytes w32) l.words
