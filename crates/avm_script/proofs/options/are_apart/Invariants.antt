use Rattle.std.proofs.Common.{◌≡◌, map, length}
use Rattle.avm_model.specs.Words.{are_distinct}
use Rattle.avm_script.proofs.options.are_apart.Given as goal

abbrev pub invariant-loop-left : goal.invariant-loop-left
invariant-loop-left l = are_distinct (map (λ n. n.now) l.left) ≡ are_distinct (map (λ n. n.now) l.fn.names)

abbrev pub decreases-loop-left : goal.decreases-loop-left
decreases-loop-left l = length l.left
