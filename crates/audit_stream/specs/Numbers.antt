-- Numbers that lie ahead, of things that have one each.
use Rattle.std.specs.Prelude.{ℕ, ◌≤◌, ◌&&◌, nat_lt, List, [], ◌∷◌, if◌then◌else◌}
use Rattle.std.specs.List.{AllByRecursion}

-- the least number above n, and below a bound; the bound where there is none
abbrev pub least_above : {A : Type 0} → (A → ℕ) → ℕ → ℕ → List A → ℕ
least_above seq n least [] = least
least_above seq n least (x ∷ xs) = least_above seq n (if nat_lt n (seq x) && nat_lt (seq x) least then seq x else least) xs

-- none has a number from n on and below the wanted one
abbrev pub Ahead : {A : Type 0} → (A → ℕ) → ℕ → ℕ → List A → Type 0
Ahead seq n wanted xs = AllByRecursion (λ x. n ≤ seq x → wanted ≤ seq x) xs
