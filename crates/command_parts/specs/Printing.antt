-- What is printed: lines, of which the last may be cut where a print fails.
use Rattle.std.specs.Prelude.{◌≡◌, ◌⊎◌, ◌++◌, ◌∷◌, [], ℕ, List, Option, option_map, Result, Ok, Err}
use Rattle.std.specs.List.{concat}
use Rattle.avm_outside.specs.Outside.{Rises, BothTold, AddsFront}
use Rattle.command_parts.specs.declared.fault.Fault.{Fault}
use Rattle.command_parts.specs.declared.fault.Fault.TheVariants.{NoMemory, Sink}

-- a line as it is printed: the byte 10 ends it
abbrev pub line : List ℕ → List ℕ
line text = text ++ 10 ∷ []

-- the lines stand behind what was printed before
abbrev pub Prints : List (List ℕ) → ℕ → ℕ → Option (List ℕ) → Option (List ℕ) → Type 0
Prints lines before now old new = (now ≡ before) × (new ≡ option_map (λ was. was ++ concat lines) old)

-- the first of the lines do
abbrev pub PrintsSome : List (List ℕ) → ℕ → ℕ → Option (List ℕ) → Option (List ℕ) → Type 0
PrintsSome lines before now old new = (said : List (List ℕ)) × (rest : List (List ℕ)) × (lines ≡ said ++ rest) × Prints said before now old new

-- a print failed: a front of the lines does
abbrev pub PrintsCut : List (List ℕ) → ℕ → ℕ → Option (List ℕ) → Option (List ℕ) → Type 0
PrintsCut lines before now old new = Rises before now × BothTold old new (AddsFront (concat lines))

-- all lines, where no fault comes
abbrev pub PrintsAll : List (List ℕ) → Result (Unit {0}) Fault → ℕ → ℕ → Option (List ℕ) → Option (List ℕ) → Type 0
PrintsAll lines (Ok done) before now old new = Prints lines before now old new
PrintsAll lines (Err NoMemory) before now old new = PrintsSome lines before now old new
PrintsAll lines (Err Sink) before now old new = PrintsCut lines before now old new
PrintsAll lines (Err e) before now old new = ⊥

-- the lines are printed and the status is given, or a print fails and the status is 4
abbrev pub Printed : List (List ℕ) → ℕ → ℕ → ℕ → Option (List ℕ) → Option (List ℕ) → ℕ → Type 0
Printed lines status before now old new result = ((result ≡ status) × Prints lines before now old new) ⊎ ((result ≡ 4) × PrintsCut lines before now old new)
