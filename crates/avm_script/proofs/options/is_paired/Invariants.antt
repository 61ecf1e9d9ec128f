use Rattle.std.proofs.Common.{◌≡◌, map, length, string_bytes}
use Rattle.avm_model.specs.Words.{are_pairs}
use Rattle.avm_script.proofs.options.is_paired.Given as goal

abbrev pub invariant-loop-left : goal.invariant-loop-left
invariant-loop-left l = are_pairs (map (λ n. n.now) l.options) (map string_bytes l.left) ≡ are_pairs (map (λ n. n.now) l.options) (map string_bytes l.fn.words)

abbrev pub decreases-loop-left : goal.decreases-loop-left
decreases-loop-left l = length l.left
