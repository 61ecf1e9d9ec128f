-- What formatting reads: a private key, a configuration, and an image.
use Rattle.std.specs.Prelude.{◌≡◌, ℕ, List, Option, None, Some, Result, MatchResult}
use Rattle.avm_model.specs.Init.{ConfigData}
use Rattle.avm_model.specs.Keys.{KeyData}
use Rattle.avm_model.specs.Machine.{State}
use Rattle.command_parts.specs.FileMap.{FileMap}
use Rattle.command_parts.specs.Reading.{Finds}
use Rattle.lms_signer.specs.Views.{key_data}
use Rattle.format_command.specs.FileOf.{key_in, IsConfigIn, IsNoConfig}
use Rattle.format_command.specs.Booting.{BootsFrom, HasNoImage}
use Rattle.format_command.specs.declared.ends.FileOption.{FileOption}
use Rattle.format_command.specs.declared.ends.FileOption.TheVariants.{Key, Config, Image}
use Rattle.format_command.specs.declared.inputs.Start.{Start}

-- the names of the files
pub record Names : Type 0 where
  pub key : List ℕ
  pub config : List ℕ
  pub image : List ℕ

-- the files as they are found
pub record Found : Type 0 where
  pub key : Option (List ℕ)
  pub config : Option (List ℕ)
  pub image : Option (List ℕ)

abbrev pub AreFound : Names → FileMap → Found → Type 0
AreFound names old f = Finds (old names.key) f.key × Finds (old names.config) f.config × Finds (old names.image) f.image

-- the first of the files that is refused, in the order in which they are read
abbrev pub RefusesFile : Found → FileOption → Type 0
RefusesFile f Key = key_in f.key ≡ None
RefusesFile f Config = (k : KeyData) × (key_in f.key ≡ Some k) × IsNoConfig f.config
RefusesFile f Image = (k : KeyData) × (c : ConfigData) × (key_in f.key ≡ Some k) × IsConfigIn f.config c × HasNoImage c f.image

-- none is refused: they tell a key and the state in which the machine boots
pub record Tells (f : Found) (k : KeyData) (s : State) : Type 0 where
  pub config : ConfigData
  pub key_is : key_in f.key ≡ Some k
  pub config_is : IsConfigIn f.config config
  pub boots : BootsFrom config f.image s

-- the files that are found, and the first that is refused or what they tell
abbrev pub AreRead : Names → FileMap → Result Start FileOption → Type 0
AreRead names old r = (f : Found) × AreFound names old f × MatchResult r (λ s. Tells f (key_data s.key) s.boot.machine.state) (λ option. RefusesFile f option)
