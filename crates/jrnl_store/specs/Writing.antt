-- A record that is written behind a closed gate, and the gate that is opened.
use Rattle.std.specs.Prelude.{◌≡◌, ◌⊎◌, ℕ, List, [], ◌∷◌, ◌++◌}
use Rattle.std.specs.Int.{w32}
use Rattle.avm_num.specs.Lists.{be, sized_bytes}
use Rattle.avm_outside.specs.Moments.{IsShut}

-- the gate is open, and the record stands behind it
abbrev pub IsWritten : List ℕ → List ℕ → List ℕ → Type 0
IsWritten front bytes c = (rest : List ℕ) × (c ≡ front ++ 1 ∷ (bytes ++ rest))

abbrev pub IsShutOrWritten : List ℕ → List ℕ → List ℕ → Type 0
IsShutOrWritten front bytes c = IsShut front c ⊎ IsWritten front bytes c

-- each image that a crash may leave
abbrev pub Each : (List ℕ → Type 0) → (List ℕ → Type 0) → Type 0
Each images P = (c : List ℕ) → images c → P c

-- what a commit writes behind a gate: the length, the items and a closed gate
abbrev pub staged : List ℕ → List ℕ
staged items = sized_bytes (be w32) items ++ 0 ∷ []
