-- Words that several definitions use: a test as a number, and the first of several that passes.
use Rattle.std.specs.Prelude.{ℕ, ◌+◌, Bool, List, [], ◌∷◌, Option, Some, None, if◌then◌else◌}

-- 1 where the test holds
abbrev pub flag : Bool → ℕ
flag b = if b then 1 else 0

-- the place, counted from i, of the first that passes
abbrev pub first_at : {A : Type 0} → (A → Bool) → ℕ → List A → Option ℕ
first_at p i [] = None
first_at p i (x ∷ xs) = if p x then Some i else first_at p (i + 1) xs

-- the first of two that is there
abbrev pub or_else : {A : Type 0} → Option A → Option A → Option A
or_else None other = other
or_else (Some x) other = Some x
