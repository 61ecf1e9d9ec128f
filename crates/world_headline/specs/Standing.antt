-- The network that a world stands for: a station for each node, and all that they released.
use Rattle.std.specs.Prelude.{◌≡◌, ◌<◌, ◌^◌, ℕ, true, List, [], ◌∷◌, Option, None, Some}
use Rattle.avm_model.specs.Head.{HeadData}
use Rattle.avm_model.specs.ImageState.{are_unused}
use Rattle.avm_model.specs.Machine.{State}
use Rattle.avm_outside.specs.MemDisks.{disk_bytes}
use Rattle.avm_outside.specs.Outlet.{packet}
use Rattle.avm_outside.specs.declared.mem_disk.MemDisk.{MemDisk}
use Rattle.honest_model.specs.KeepPages.{IsHeader}
use Rattle.journal_model.specs.Journal.{Is, JournalData, journal_of, parts}
use Rattle.journal_model.specs.Standing.{SignedData}
use Rattle.life_model.specs.Life.{Among, Gone, IsKept, IsNew, Life, OnStore, Place, Told, left_at}
use Rattle.record_parts.specs.Outs.{ram_in}
use Rattle.record_turn.specs.Keeping.{MarksTell}
use Rattle.record_turn.specs.declared.desk.Desk.{Desk}
use Rattle.recorder.specs.Recorder.{desk_of}
use Rattle.recorder.specs.declared.recorder.Recorder.{Recorder}
use Rattle.world_core.specs.Turns.{IsDiskOf, may_leave, recording_of, signs_in}
use Rattle.world_core.specs.Worlds.{ParcelData, nodes_of, pool_of}
use Rattle.world_core.specs.declared.node.Node.{Node}
use Rattle.world_core.specs.declared.world.World.{World}
use Rattle.world_laws.specs.Counting.{mail_in}
use Rattle.world_laws.specs.Network.{Network, Station}

-- ---- the life of a node's store

-- where the store is: on a disk, or an image that a crash has left
abbrev pub Store : Type 0
Store = Place MemDisk MemDisk

abbrev pub left : Store → List ℕ → Type 0
left = left_at may_leave may_leave

-- what a store's life has behind it
pub record Past : Type 0 where
  pub retiring : Option ℕ
  pub gone : Gone
  pub released : List Told
  pub signed : List SignedData

-- the life of the store on a disk, with the parts of its recorder
abbrev pub life_of : MemDisk → Desk → JournalData → Past → Life Store
life_of d k j past = record { who = signs_in k; recording = recording_of j k; place = OnStore d; retiring = past.retiring; gone = past.gone; released = past.released; signed = past.signed }

-- ---- a node at its station

abbrev pub station_of : JournalData → Desk → Station
station_of j k = record { who = signs_in k; recording = recording_of j k }

-- The disk is that of the journal, whose life is kept so far. It carries no entry, its header's head is one, and the marks of the machine's RAM tell
-- which pages the next keep needs.
pub record StandsAt (d : MemDisk) (k : Desk) (j : JournalData) : Type 0 where
  pub disk : IsDiskOf d k j
  pub past : Past
  pub kept : IsKept left (life_of d k j past)
  pub carried : j.header.carried ≡ []
  pub head : HeadData
  pub header : IsHeader j.header head
  pub marks : MarksTell j k.store.batch.parts (ram_in k.machine)

-- a station is that of a recorder on the journal of its disk
pub record Stands (d : MemDisk) (r : Recorder) (s : Station) : Type 0 where
  pub journal : JournalData
  pub is : s ≡ station_of journal (desk_of r)
  pub at : StandsAt d (desk_of r) journal

-- a node that is down takes no part any more: its station stays
abbrev pub StandsIfUp : MemDisk → Option Recorder → Station → Type 0
StandsIfUp d None s = Unit {0}
StandsIfUp d (Some r) s = Stands d r s

pub record IsStation (n : Node) (s : Station) : Type 0 where
  pub who : s.who.own ≡ n.own
  pub own : s.recording.machine.devices.own ≡ n.own
  pub low : n.own < 2 ^ 32
  pub up : StandsIfUp n.disk n.recorder s

abbrev pub AreStations : List Node → List Station → Type 0
AreStations [] [] = Unit {0}
AreStations [] (s ∷ ss) = ⊥
AreStations (n ∷ ns) [] = ⊥
AreStations (n ∷ ns) (s ∷ ss) = IsStation n s × AreStations ns ss

-- each node has its station, and each packet of the pool was released
pub record StandsFor (w : World) (n : Network) : Type 0 where
  pub nodes : AreStations (nodes_of w) n.stations
  pub pool : (p : ParcelData) → Among p (pool_of w) → Among (packet p.to p.bytes) n.released

-- ---- a store that joins

-- What is read of a disk, and each image that a crash may leave of it, stands for a journal that has never recorded, with its state; no message
-- was sent or received.
pub record IsFresh (d : MemDisk) : Type 0 where
  pub journal : JournalData
  pub state : State
  pub fresh : IsNew left (OnStore d) journal state
  pub reads : journal_of (disk_bytes d) ≡ Is journal
  pub head : HeadData
  pub header : IsHeader journal.header head
  pub mail : mail_in (parts journal) ≡ []
  pub rows : are_unused state.devices.peers ≡ true
  pub own : state.devices.own < 2 ^ 32
