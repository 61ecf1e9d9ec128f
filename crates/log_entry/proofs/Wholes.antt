-- The two laws of a format that ends where its bytes end.
use Rattle.std.proofs.Common.{◌≡◌, ℕ, List, Option, Some, None, ap}
use Rattle.avm_num.specs.Bytes.{IsBytes}

pub record ReadsWhole {A : Type 0} (at : List ℕ → Option A) (spell : A → List ℕ) (Fits : A → Type 0) : Type 0 where
  pub front : (bytes : List ℕ) (x : A) → IsBytes bytes → at bytes ≡ Some x → (bytes ≡ spell x) × Fits x
  pub again : (x : A) → Fits x → at (spell x) ≡ Some x

-- where nothing is read, no value is spelled so
pub none_whole : {A : Type 0} {at : List ℕ → Option A} {spell : A → List ℕ} {Fits : A → Type 0} → ReadsWhole at spell Fits → (bytes : List ℕ) → at bytes ≡ None → (x : A) → Fits x → bytes ≡ spell x → ⊥
none_whole {at = at} {spell = spell} r bytes e x fits is =
    let again = r.again x fits in
    let same : at bytes ≡ at (spell x) = ap at is in
    cc
