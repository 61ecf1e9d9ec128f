-- The stores that the nodes of a schedule begin with (docs/FORMATS.md, "Schedule"): each as `format` makes it, with its number as its own
-- id, and all others as its peers.
use Rattle.std.specs.Prelude.{◌≡◌, ℕ, ◌+◌, ◌==◌, List, [], ◌∷◌, replicate, true, if◌then◌else◌}
use Rattle.avm_model.specs.HeadState.{data_of}
use Rattle.avm_model.specs.Init.{ConfigData}
use Rattle.avm_model.specs.Keys.{KeyData, public_of}
use Rattle.avm_model.specs.LmsValid.{is_key}
use Rattle.avm_model.specs.Machine.{State}
use Rattle.avm_model.specs.declared.Peer.{Peer}
use Rattle.avm_outside.specs.DiskLog.{IsImage}
use Rattle.avm_outside.specs.MemDisks.{disk_bytes, state_now}
use Rattle.avm_outside.specs.declared.mem_disk.MemDisk.{MemDisk}
use Rattle.format_command.specs.Booting.{Boots}
use Rattle.format_command.specs.First.{StandsFor, first_journal}
use Rattle.honest_model.specs.KeepPages.{IsHeader, WritesHead}
use Rattle.world_model.specs.Deeds.{NodeData}

-- height 5 and W8; the identifier is 16 times the node's number
abbrev pub key_at : ℕ → NodeData → KeyData
key_at own n = record { lms = 5; ots = 4; id = replicate 16 own; seed = n.seed }

-- the public keys of nodes, from this number on
abbrev pub keys_from : ℕ → List NodeData → List (List ℕ)
keys_from own [] = []
keys_from own (n ∷ ns) = public_of (key_at own n) ∷ keys_from (own + 1) ns

abbrev pub new_row : ℕ → List ℕ → Peer
new_row id key = record { id = id; key = key; sent = 0; acked = 0; received = 0 }

-- a row for each of these keys, which are those of the nodes from this number on, but for the own one
abbrev pub rows_from : ℕ → ℕ → List (List ℕ) → List Peer
rows_from own id [] = []
rows_from own id (key ∷ keys) = if id == own then rows_from own (id + 1) keys else new_row id key ∷ rows_from own (id + 1) keys

-- one page, and a snapshot each 1024 steps
abbrev pub config_at : ℕ → List (List ℕ) → ConfigData
config_at own keys = record { version = 1; own = own; pages = 1; snap = 1024; peers = rows_from own 0 keys }

-- each is a key
abbrev pub AreKeys : List (List ℕ) → Type 0
AreKeys [] = Unit {0}
AreKeys (key ∷ keys) = (is_key key ≡ true) × AreKeys keys

-- What is read of the disk, and each image that a crash may leave of it, stands for BOOT of the state in which the node boots. The head of
-- that state tells it whole, and is that of the journal's header.
pub record IsStoreOf (keys : List (List ℕ)) (own : ℕ) (n : NodeData) (d : MemDisk) : Type 0 where
  pub state : State
  pub boots : Boots (config_at own keys) n.image state
  pub writes : WritesHead state
  pub header : IsHeader (first_journal (key_at own n) state).header (data_of state)
  pub stands : StandsFor (first_journal (key_at own n) state) (IsImage (state_now d)) (disk_bytes d)
