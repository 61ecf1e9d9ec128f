-- What the calls of the outside's objects say of their counts, and of the bytes that they tell.
use Rattle.std.specs.Prelude.{◌≡◌, ◌<◌, ◌≤◌, ◌+◌, ◌^◌, ℕ, List, ◌++◌, take, Option, None, Some, Result, MatchResult}
use Rattle.avm_outside.specs.declared.files.Failed.{Failed}

-- The count of faults rose in this time, or stands at the last value of a u64, where it stays.
pub record Rises (before now : ℕ) : Type 0 where
  pub no_less : before ≤ now
  pub more : before + 1 < 2 ^ 64 → before < now
  pub stays : 2 ^ 64 ≤ before + 1 → now ≡ before

-- A call answers Failed only where the count rose, and every other answer leaves it.
abbrev pub Counts : {T : Type 0} → ℕ → ℕ → Result T Failed → Type 0
Counts before now result = MatchResult result (λ _. now ≡ before) (λ _. Rises before now)

-- Two meanings of which both are told, or neither is.
abbrev pub BothTold : {A : Type 0} → Option A → Option A → (A → A → Type 0) → Type 0
BothTold None None R = Unit {0}
BothTold None (Some new) R = ⊥
BothTold (Some old) None R = ⊥
BothTold (Some old) (Some new) R = R old new

-- new is old with some front of these bytes behind it
abbrev pub AddsFront : List ℕ → List ℕ → List ℕ → Type 0
AddsFront bytes old new = (n : ℕ) × (new ≡ old ++ take n bytes)
