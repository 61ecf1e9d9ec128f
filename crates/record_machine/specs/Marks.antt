-- Which pages the next keep has: those with a mark, or all of them.
use Rattle.std.specs.Prelude.{◌≡◌, ℕ, Bool, true, false, List, length, get_or, if◌then◌else◌, replicate}

abbrev pub used_marks : Bool → List Bool → List Bool
used_marks all dirty = if all then replicate (length dirty) true else dirty

-- each mark is set that is used
abbrev pub HasMarks : List Bool → List Bool → Type 0
HasMarks marks used = (i : ℕ) → get_or used i false ≡ true → get_or marks i false ≡ true
