use Rattle.std.proofs.Common.{◌≡◌, ℕ, ◌+◌, ◌<◌, replicate}
use Rattle.avm_model.specs.Pages.{page_of}
use Rattle.page_tree.proofs.building.are_filled.Given as goal

abbrev pub invariant-loop-k : goal.invariant-loop-k
invariant-loop-k l = (k : ℕ) → k < l.k → page_of l.ram.bytes (l.first + k) ≡ replicate 4096 0 → ⊥
