-- Chains put together, nodes of a tree and their equations.
use Rattle.std.proofs.Common.{◌≡◌, ℕ, zero, suc, ◌+◌, List, refl, add_assoc, add-zero, add-suc}
use Rattle.avm_model.specs.LmsOts.{chain}

-- n steps, and then m more
pub chain_then : (head : List ℕ) (a n m : ℕ) (x : List ℕ) → chain head (a + n) m (chain head a n x) ≡ chain head a (n + m) x
chain_then head a n zero x = rw add-zero refl
chain_then head a n (suc m) x = rw (add-suc, chain_then head a n m x, add_assoc) refl
