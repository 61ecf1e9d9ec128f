-- A machine that hasn't made a step.
use Rattle.std.specs.Prelude.{◌≡◌, ℕ, List, None}
use Rattle.avm_model.specs.Init.{ConfigData}
use Rattle.avm_model.specs.Keys.{HasTypes}
use Rattle.avm_model.specs.Pages.{root_of, sha_hashes}
use Rattle.lms_signer.specs.Views.{key_data}
use Rattle.format_command.specs.Booting.{Boots}
use Rattle.format_command.specs.declared.boot.Boot.{Boot}
use Rattle.format_command.specs.declared.inputs.Start.{Start}

-- no clock is pending, and the root is that of its pages
pub record IsRooted (b : Boot) : Type 0 where
  pub clock : b.machine.state.devices.clock ≡ None
  pub pages : b.pages ≡ root_of sha_hashes b.machine.state.ram

-- it boots from the file
pub record IsBootOf (c : ConfigData) (file : List ℕ) (b : Boot) : Type 0 where
  pub boots : Boots c file b.machine.state
  pub rooted : IsRooted b

-- a key with its types, and a machine that hasn't made a step
pub record IsStart (s : Start) : Type 0 where
  pub types : HasTypes (key_data s.key)
  pub rooted : IsRooted s.boot
