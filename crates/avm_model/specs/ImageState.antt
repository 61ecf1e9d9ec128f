-- The image of a file, and the state in which a machine boots from it.
use Rattle.std.specs.Prelude.{◌≡◌, ℕ, ◌*◌, ◌/◌, ◌==◌, ◌&&◌, not, Bool, true, false, List, [], ◌∷◌, length, map, replicate, Option, Some, None, is_some}
use Rattle.std.specs.Str.{bytes_eq}
use Rattle.avm_model.specs.Bell.{version_of, idle_bell}
use Rattle.avm_model.specs.Device.{DeviceState, idle}
use Rattle.avm_model.specs.Image.{load_fault, loaded, entry_of}
use Rattle.avm_model.specs.Init.{ConfigData, Init}
use Rattle.avm_model.specs.Machine.{State, is_running}
use Rattle.avm_model.specs.declared.loading.LoadFault.{LoadFault}
use Rattle.avm_model.specs.declared.Bell.{Bell}
use Rattle.avm_model.specs.declared.Peer.{Peer}

-- RAM and entry, or the first refusal
pub data Image : Type 0 where
  Gives : List ℕ → ℕ → Image
  Refuses : LoadFault → Image

abbrev pub image_by : Option LoadFault → List ℕ → ℕ → Image
image_by (Some fault) ram entry = Refuses fault
image_by None ram entry = Gives ram entry

-- the image of a file in so many pages of RAM
abbrev pub image : ℕ → List ℕ → Image
image pages file =
    image_by (load_fault (4096 * pages) file) (loaded (replicate (4096 * pages) 0) file) (entry_of file)

-- a peer that nothing was sent to and nothing came from
abbrev pub unused : Peer → Peer
unused p = record p { sent = 0; acked = 0; received = 0 }

-- what a state shows of its configuration
abbrev pub config_of : State → ConfigData
config_of s = record {
  version = version_of s.devices.bell;
  own = s.devices.own;
  pages = length s.ram / 4096;
  snap = s.snap;
  peers = map unused s.devices.peers;
}

-- a state is the one in which a machine of its own configuration boots with this RAM and entry
abbrev pub IsBooted : State → List ℕ → ℕ → Type 0
IsBooted s ram entry = s ≡ Init (config_of s) ram entry

abbrev pub IsBootedFrom : State → Image → Type 0
IsBootedFrom s (Gives ram entry) = IsBooted s ram entry
IsBootedFrom s (Refuses fault) = ⊥

-- a state is the initial state of an image under its own version, id, number of steps between snapshots, page count and peers
abbrev pub IsImageOf : State → List ℕ → Type 0
IsImageOf s file = IsBootedFrom s (image (config_of s).pages file)

-- ---- the same as a test

abbrev pub are_unused : List Peer → Bool
are_unused [] = true
are_unused (p ∷ ps) = p.sent == 0 && p.acked == 0 && p.received == 0 && are_unused ps

abbrev pub is_new : Option Bell → Bool
is_new None = true
is_new (Some b) = b.vector == 0 && b.saved == 0 && b.state == idle_bell

abbrev pub is_fresh : DeviceState → Bool
is_fresh d =
    length d.line == 0 && idle d && not (is_some d.clock) && d.latch == 0 && d.tx_peer == 0 && d.tx_len == 0
    && d.tx_result == 0 && bytes_eq d.window (replicate 1024 0) && are_unused d.peers && is_new d.bell

abbrev pub is_booted : State → List ℕ → ℕ → Bool
is_booted s ram entry =
    s.count == 0 && is_running s.status && s.hart.pc == entry && bytes_eq s.hart.x (replicate 32 0) && is_fresh s.devices
    && bytes_eq s.ram ram

abbrev pub is_booted_from : State → Image → Bool
is_booted_from s (Gives ram entry) = is_booted s ram entry
is_booted_from s (Refuses fault) = false

unfoldable pub is_image_of : State → List ℕ → Bool
is_image_of s file = is_booted_from s (image (config_of s).pages file)
