-- Input files and what they are read as.
use Rattle.std.specs.Prelude.{◌≡◌, ℕ, List, Option, Some, option_and_then}
use Rattle.avm_num.specs.Bytes.{kept}
use Rattle.avm_model.specs.Keys.{public_file}
use Rattle.command_parts.specs.Reading.{Finds}

-- the public key that bytes are
abbrev pub public_key_in : List ℕ → Option (List ℕ)
public_key_in bytes = kept (public_file bytes) bytes

-- what the file that is found is read as; none where it isn't there or isn't one
abbrev pub IsInput : {X : Type 0} → (List ℕ → Option X) → Option (Option (List ℕ)) → Option X → Type 0
IsInput read told o = (found : Option (List ℕ)) × Finds told found × (o ≡ option_and_then read found)

-- the told file is read as this
abbrev pub IsTold : {X : Type 0} → (List ℕ → Option X) → Option (Option (List ℕ)) → X → Type 0
IsTold read told x = (bytes : List ℕ) × (told ≡ Some (Some bytes)) × (read bytes ≡ Some x)
