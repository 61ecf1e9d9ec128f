-- The state in which the machine of a configuration boots from an image's file.
use Rattle.std.specs.Prelude.{◌≡◌, ◌⊎◌, ◌≤◌, ◌<◌, ◌^◌, ℕ, true, IsTrue, List, length, Option, Some, IfSome}
use Rattle.avm_model.specs.Bounds.{are_rows, none_past}
use Rattle.avm_model.specs.ImageState.{image, Gives, Refuses}
use Rattle.avm_model.specs.Init.{ConfigData, Init}
use Rattle.avm_model.specs.Machine.{State}
use Rattle.avm_model.specs.Memory.{is_page_count}
use Rattle.avm_model.specs.declared.loading.LoadFault.{LoadFault}

-- within the bounds of a head, and nothing was sent to a peer
pub record IsReady (c : ConfigData) : Type 0 where
  pub own : c.own < 16
  pub least : 1024 ≤ c.snap
  pub most : c.snap ≤ 2 ^ 24
  pub pages : IsTrue (is_page_count c.pages)
  pub rows : are_rows c.own 0 c.peers ≡ true
  pub unsent : none_past 0 c.peers ≡ true

-- the file is an image within its limit, which gives this state
pub record Boots (c : ConfigData) (file : List ℕ) (s : State) : Type 0 where
  pub short : length file ≤ 2 ^ 25
  pub ram : List ℕ
  pub entry : ℕ
  pub gives : image c.pages file ≡ Gives ram entry
  pub is : s ≡ Init c ram entry

-- it is longer than an image, or refused
abbrev pub IsNoImage : ConfigData → List ℕ → Type 0
IsNoImage c file = (2 ^ 25 < length file) ⊎ ((fault : LoadFault) × (image c.pages file ≡ Refuses fault))

abbrev pub BootsFrom : ConfigData → Option (List ℕ) → State → Type 0
BootsFrom c found s = (bytes : List ℕ) × (found ≡ Some bytes) × Boots c bytes s

-- the file isn't there, or is no image for this configuration
abbrev pub HasNoImage : ConfigData → Option (List ℕ) → Type 0
HasNoImage c found = IfSome found (IsNoImage c)
