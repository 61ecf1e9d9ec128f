use Rattle.std.proofs.Common.{◌≡◌, map, length}
use Rattle.avm_model.specs.Words.{is_among}
use Rattle.avm_script.proofs.options.is_among_names.Given as goal

abbrev pub invariant-loop-left : goal.invariant-loop-left
invariant-loop-left l = is_among l.word (map (λ n. n.now) l.left) ≡ is_among l.word (map (λ n. n.now) l.fn.names)

abbrev pub decreases-loop-left : goal.decreases-loop-left
decreases-loop-left l = length l.left
