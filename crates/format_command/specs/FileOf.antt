-- A private key's file and a configuration's file, as they are found and read.
use Rattle.std.specs.Prelude.{◌≡◌, ◌≤◌, ℕ, List, length, Option, None, Some, IfSome, MatchOption}
use Rattle.avm_model.specs.Init.{ConfigData}
use Rattle.avm_model.specs.Keys.{KeyData, key_file}
use Rattle.avm_script.specs.Config.{IsConfig}
use Rattle.command_parts.specs.Reading.{Finds}

-- the private key in a file that may not be there
abbrev pub key_in : Option (List ℕ) → Option KeyData
key_in None = None
key_in (Some bytes) = key_file bytes

abbrev pub IsKeyRead : Option (Option (List ℕ)) → Option KeyData → Type 0
IsKeyRead told got = (found : Option (List ℕ)) × Finds told found × (key_in found ≡ got)

-- a configuration within its limit
pub record IsConfigText (bytes : List ℕ) (c : ConfigData) : Type 0 where
  pub short : length bytes ≤ 65536
  pub says : IsConfig bytes c

-- the configuration in a file
abbrev pub IsConfigIn : Option (List ℕ) → ConfigData → Type 0
IsConfigIn found c = (bytes : List ℕ) × (found ≡ Some bytes) × IsConfigText bytes c

-- the file isn't there, or is none
abbrev pub IsNoConfig : Option (List ℕ) → Type 0
IsNoConfig found = IfSome found (λ bytes. (c : ConfigData) → IsConfigText bytes c → ⊥)

abbrev pub IsConfigRead : Option (Option (List ℕ)) → Option ConfigData → Type 0
IsConfigRead told got = (found : Option (List ℕ)) × Finds told found × MatchOption got (IsNoConfig found) (λ c. IsConfigIn found c)
