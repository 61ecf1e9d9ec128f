-- Files that are read whole.
use Rattle.std.specs.Prelude.{◌≡◌, ◌+◌, ℕ, List, [], Option, None, Some, length, take, unwrap_or, option_map, IfSome}
use Rattle.command_parts.specs.declared.fault.Fault.{Fault}
use Rattle.command_parts.specs.declared.fault.Fault.TheVariants.{NoMemory, Files}

-- these are the first bytes of the file, or none where it isn't there
abbrev pub IsFront : Option (List ℕ) → List ℕ → Type 0
IsFront was bytes = bytes ≡ take (length bytes) (unwrap_or was [])

-- what is found under a name: the told file, where the object tells it, and else anything
abbrev pub Finds : Option (Option (List ℕ)) → Option (List ℕ) → Type 0
Finds told found = IfSome told (λ was. was ≡ found)

-- what was read of a file: all of it, but no more than the limit and one byte
abbrev pub IsReadOf : ℕ → Option (Option (List ℕ)) → Option (List ℕ) → Type 0
IsReadOf limit told got = (found : Option (List ℕ)) × Finds told found × (got ≡ option_map (take (limit + 1)) found)

-- the bytes of a file that is there
abbrev pub bytes_of : Option (List ℕ) → List ℕ
bytes_of None = []
bytes_of (Some bytes) = bytes

-- what was read of a file has the same value as the whole file, and is there where the file is
abbrev pub ReadsAs : {B : Type 0} → (List ℕ → B) → Option (List ℕ) → Option (List ℕ) → Type 0
ReadsAs f None None = Unit {0}
ReadsAs f None (Some got) = ⊥
ReadsAs f (Some bytes) None = ⊥
ReadsAs f (Some bytes) (Some got) = f got ≡ f bytes

-- what was read of a file that may not be told
abbrev pub IsReadAs : {B : Type 0} → (List ℕ → B) → Option (Option (List ℕ)) → Option (List ℕ) → Type 0
IsReadAs f told got = (found : Option (List ℕ)) × Finds told found × ReadsAs f found got

-- why reading ends without an answer
abbrev pub IsOfReading : Fault → Type 0
IsOfReading NoMemory = Unit {0}
IsOfReading Files = Unit {0}
IsOfReading e = ⊥
