-- What recording reads: a private key and a script.
use Rattle.std.specs.Prelude.{◌≡◌, ◌^◌, nat_le, ℕ, List, length, Option, None, Some, Result, MatchResult, if◌then◌else◌}
use Rattle.avm_model.specs.Keys.{KeyData}
use Rattle.avm_script.specs.Script.{ScriptData, script_at}
use Rattle.command_parts.specs.FileMap.{FileMap}
use Rattle.command_parts.specs.Reading.{Finds}
use Rattle.format_command.specs.FileOf.{key_in}
use Rattle.lms_signer.specs.Views.{key_data}
use Rattle.record_command.specs.declared.ends.FileOption.{FileOption}
use Rattle.record_command.specs.declared.ends.FileOption.TheVariants.{Key, Script}
use Rattle.record_command.specs.declared.inputs.Start.{Start}

-- a script within its limit
unfoldable pub script_file : List ℕ → Option ScriptData
script_file bytes = if nat_le (length bytes) (2 ^ 26) then script_at bytes else None

-- the script in a file that may not be there
abbrev pub script_in : Option (List ℕ) → Option ScriptData
script_in None = None
script_in (Some bytes) = script_file bytes

abbrev pub IsScriptRead : Option (Option (List ℕ)) → Option ScriptData → Type 0
IsScriptRead told got = (found : Option (List ℕ)) × Finds told found × (script_in found ≡ got)

-- the names of the files that are read
pub record InputNames : Type 0 where
  pub key : List ℕ
  pub script : List ℕ

-- the files as they are found
pub record Found : Type 0 where
  pub key : Option (List ℕ)
  pub script : Option (List ℕ)

abbrev pub AreFound : InputNames → FileMap → Found → Type 0
AreFound names old f = Finds (old names.key) f.key × Finds (old names.script) f.script

-- the first of the files that is refused, in the order in which they are read
abbrev pub RefusesFile : Found → FileOption → Type 0
RefusesFile f Key = key_in f.key ≡ None
RefusesFile f Script = (k : KeyData) × (key_in f.key ≡ Some k) × (script_in f.script ≡ None)

-- none is refused: they are a private key and a script
pub record Tells (f : Found) (k : KeyData) (s : ScriptData) : Type 0 where
  pub key_is : key_in f.key ≡ Some k
  pub script_is : script_in f.script ≡ Some s

-- the files that are found, and the first that is refused or what they tell
abbrev pub AreRead : InputNames → FileMap → Result Start FileOption → Type 0
AreRead names old r = (f : Found) × AreFound names old f × MatchResult r (λ s. Tells f (key_data s.key) s.script) (λ option. RefusesFile f option)
