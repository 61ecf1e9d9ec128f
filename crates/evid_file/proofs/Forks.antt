-- The body of a fork, field by field.
use Rattle.std.proofs.Common.{◌≡◌, ℕ, false, nat_eq, List, [], ◌∷◌, length, Some, None, refl}
use Rattle.std.specs.Int.{w32, w64}
use Rattle.avm_num.specs.Bytes.{number_at, piece_at}
use Rattle.avm_num.specs.Lists.{sized_at}
use Rattle.avm_num.specs.Walk.{is_nil}
use Rattle.avm_model.specs.Auth.{AuthData, auth_at}
use Rattle.avm_model.specs.Evidence.{fork_at}

not_nil : (rest : List ℕ) → nat_eq (length rest) 0 ≡ false → is_nil rest ≡ false
not_nil [] e = absurd cc
not_nil (b ∷ rest) e = refl

-- bytes behind the second authenticator
pub fork_over : (key bytes before frames b1 b2 b3 b4 rest : List ℕ) (start : ℕ) (top other : AuthData) → number_at w64 bytes ≡ Some (start, b1) → piece_at 32 b1 ≡ Some (before, b2) → sized_at (number_at w32) b2 ≡ Some (frames, b3)
    → auth_at b3 ≡ Some (top, b4) → auth_at b4 ≡ Some (other, rest) → nat_eq (length rest) 0 ≡ false → fork_at key bytes ≡ None
unfolding fork_at
fork_over key bytes before frames b1 b2 b3 b4 rest start top other p q r s t over = rw (p, q, r, s, t, not_nil rest over) refl
