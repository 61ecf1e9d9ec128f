-- A store that is opened as a node, and whether it may stand beside others.
use Rattle.std.specs.Prelude.{◌≡◌, ◌++◌, ◌∷◌, ◌&&◌, ◌==◌, not, position, ℕ, Bool, true, List, [], length, bytes_eq, Option, None, Some, Result, Ok, Err}
use Rattle.avm_model.specs.Device.{row_of}
use Rattle.avm_model.specs.Keys.{KeyData, public_of}
use Rattle.avm_model.specs.declared.Peer.{Peer}
use Rattle.avm_outside.specs.MemDisks.{disk_bytes}
use Rattle.avm_outside.specs.declared.mem_disk.MemDisk.{MemDisk}
use Rattle.journal_model.specs.Journal.{Is, JournalData, journal_of}
use Rattle.record_open.specs.Opening.{AttachAnswers, IsAllowed, IsDesk}
use Rattle.record_open.specs.declared.fault.RecordFault.{RecordFault}
use Rattle.record_open.specs.declared.fault.RecordFault.TheVariants as fault
use Rattle.recorder.specs.Recorder.{desk_of, stop_of}
use Rattle.recorder.specs.declared.recorder.Recorder.{Recorder}
use Rattle.world_core.specs.Turns.{IsDiskOf, may_leave}
use Rattle.world_core.specs.Worlds.{SameWorld, events_of, nodes_of, pool_of}
use Rattle.world_core.specs.declared.node.Node.{Node}
use Rattle.world_core.specs.declared.types.WorldFault.{WorldFault}
use Rattle.world_core.specs.declared.types.WorldFault.TheVariants as world
use Rattle.world_core.specs.declared.world.World.{World}

-- A node of a store on a disk, under a key: a recorder on the disk's bytes, with the journal that they stand for, and nothing unsaved; the node's
-- own id and peers are those of its machine.
pub record OpensAs (d : MemDisk) (who : KeyData) (n : Node) : Type 0 where
  pub recorder : Recorder
  pub up : n.recorder ≡ Some recorder
  pub runs : stop_of recorder ≡ None
  pub empty : (desk_of recorder).store.batch.parts ≡ []
  pub signs : (desk_of recorder).press.key ≡ who
  pub key : n.key ≡ public_of who
  pub own : n.own ≡ (desk_of recorder).machine.state.devices.own
  pub peers : n.peers.items ≡ (desk_of recorder).machine.state.devices.peers
  pub bytes : disk_bytes n.disk ≡ disk_bytes d
  pub images : (c : List ℕ) → may_leave n.disk c → may_leave d c
  pub journal : JournalData
  pub stands : journal_of (disk_bytes d) ≡ Is journal
  pub allowed : IsAllowed who journal
  pub disk : IsDiskOf n.disk (desk_of recorder) journal
  pub desk : IsDesk journal (desk_of recorder)

-- opening the store answers this fault
abbrev pub NotOpened : MemDisk → KeyData → RecordFault → Type 0
NotOpened d who fault.NoMemory = Unit {0}
NotOpened d who why = AttachAnswers who (Err why) (may_leave d) (disk_bytes d)

-- ---- beside others

abbrev pub names_key : Option Peer → List ℕ → Bool
names_key None key = true
names_key (Some row) key = bytes_eq row.key key

-- rows name this key for an id, or have no row for it
abbrev pub names : List Peer → ℕ → List ℕ → Bool
names rows id key = names_key (row_of rows id) key

-- one of two names the other with another key than the other's
abbrev pub clashes : Node → Node → Bool
clashes n other = not (names other.peers.items n.own n.key && names n.peers.items other.own other.key)

-- the first node with an own id, and the first that clashes with one
abbrev pub place_of_id : List Node → ℕ → Option ℕ
place_of_id nodes own = position (λ n. n.own == own) nodes

abbrev pub place_of_clash : List Node → Node → Option ℕ
place_of_clash nodes n = position (λ other. clashes n other) nodes

-- what joining a store to a world answers
abbrev pub JoinAnswers : World → World → MemDisk → KeyData → Result ℕ WorldFault → Type 0
JoinAnswers old new d who (Ok k) =
    (k ≡ length (nodes_of old)) × (n : Node) × OpensAs d who n × (place_of_id (nodes_of old) n.own ≡ None) × (place_of_clash (nodes_of old) n ≡ None)
    × (nodes_of new ≡ nodes_of old ++ n ∷ []) × (pool_of new ≡ pool_of old) × (events_of new ≡ events_of old)
JoinAnswers old new d who (Err world.NoMemory) = SameWorld old new
JoinAnswers old new d who (Err (world.Node why)) = (why ≡ fault.NoMemory → ⊥) × NotOpened d who why × SameWorld old new
JoinAnswers old new d who (Err (world.Ids k)) = (n : Node) × OpensAs d who n × (place_of_id (nodes_of old) n.own ≡ Some k) × SameWorld old new
JoinAnswers old new d who (Err (world.Keys k)) = (n : Node) × OpensAs d who n × (place_of_id (nodes_of old) n.own ≡ None) × (place_of_clash (nodes_of old) n ≡ Some k) × SameWorld old new
