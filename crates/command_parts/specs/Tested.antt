-- A file that has to pass a test.
use Rattle.std.specs.Prelude.{◌≡◌, ℕ, Bool, true, false, List, Option, None, Some, IfSome}
use Rattle.command_parts.specs.Reading.{Finds}

-- the file is these bytes, which pass, or it isn't there or doesn't pass
abbrev pub IsTested : (List ℕ → Bool) → Option (List ℕ) → Option (List ℕ) → Type 0
IsTested test found (Some bytes) = (found ≡ Some bytes) × (test bytes ≡ true)
IsTested test found None = IfSome found (λ bytes. test bytes ≡ false)

-- what is read of it
abbrev pub IsTestedRead : (List ℕ → Bool) → Option (Option (List ℕ)) → Option (List ℕ) → Type 0
IsTestedRead test told got = (found : Option (List ℕ)) × Finds told found × IsTested test found got
