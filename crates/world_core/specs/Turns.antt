-- What a turn and a seal of a recorder do on a disk in memory, with an outlet of one packet.
use Rattle.std.specs.Prelude.{◌≡◌, ℕ, Bool, true, List, Some, None, is_some}
use Rattle.avm_outside.specs.DiskLog.{IsImage, LeftSince}
use Rattle.avm_outside.specs.Feed.{Agenda, answer_of}
use Rattle.avm_outside.specs.Outlet.{Piece}
use Rattle.avm_outside.specs.MemDisks.{disk_bytes, disk_calls, state_now}
use Rattle.avm_outside.specs.declared.due.Due.{Due}
use Rattle.avm_outside.specs.declared.mem_disk.MemDisk.{MemDisk}
use Rattle.journal_model.specs.Journal.{JournalData}
use Rattle.jrnl_store.specs.Kept.{kept as kept_of}
use Rattle.jrnl_store.specs.declared.fault.Stop.{Stop}
use Rattle.record_model.specs.Released.{Sender}
use Rattle.record_model.specs.Recording.{Recording}
use Rattle.record_model.specs.Turn.{Gift}
use Rattle.record_parts.specs.Ends.{Faults}
use Rattle.record_parts.specs.declared.answers.Sealed.{Sealed}
use Rattle.record_parts.specs.declared.answers.Sealed.TheVariants as sealed
use Rattle.record_parts.specs.declared.answers.Turn.{Turn}
use Rattle.record_parts.specs.declared.answers.Turn.TheVariants as turn
use Rattle.record_ready.specs.Ready.{IsDeskOf}
use Rattle.record_turn.specs.Desk.{rows_of}
use Rattle.record_turn.specs.Keeping.{Aside, aside_of}
use Rattle.record_turn.specs.Leaves.{Leaves, OnOutlet, Seals}
use Rattle.record_turn.specs.declared.desk.Desk.{Desk}
use Rattle.recorder.specs.Recorder.{desk_of, stop_of}
use Rattle.recorder.specs.Turns.{Feeds, Planned, result_of, seal_result, stop_behind}
use Rattle.recorder.specs.declared.recorder.Recorder.{Recorder}
use Rattle.world_parts.specs.Holding.{with_piece}

-- what an outlet of one packet keeps
abbrev pub Packets : Type 0
Packets = List (ℕ × List ℕ)

-- a piece that fails leaves it
abbrev pub stays : Piece → Packets → Packets → Type 0
stays piece old new = new ≡ old

-- a feed of one event gives it whether the machine runs or not
abbrev pub one_answer : Agenda → ℕ → Bool → Due
one_answer a count running = answer_of a count true

abbrev pub moment : MemDisk → ℕ
moment d = disk_calls d

abbrev pub left_since : MemDisk → ℕ → List ℕ → Type 0
left_since d t c = LeftSince d.base.items d.calls.calls d.log.items t c

abbrev pub may_leave : MemDisk → List ℕ → Type 0
may_leave d c = IsImage (state_now d) c

-- who signs, the recording on a journal, and what stands beside it
abbrev pub signs_in : Desk → Sender
signs_in k = record { key = k.press.key; own = k.machine.state.devices.own }

abbrev pub recording_of : JournalData → Desk → Recording
recording_of j k = record { journal = j; batch = k.store.batch.parts; machine = k.machine.state }

abbrev pub aside_in : Desk → Aside
aside_in k = aside_of k.kept k.machine

-- the disk is that of a journal, whose tickets are kept
abbrev pub IsDiskOf : MemDisk → Desk → JournalData → Type 0
IsDiskOf d k j = IsDeskOf (kept_of k.store.journal) (rows_of k.kept) (may_leave d) (disk_bytes d) j

-- A turn of a recorder that hasn't stopped, on the disk of this journal: what the feed gave, and by it a plan, whose act is done.
pub record Goes (d e : MemDisk) (k l : Desk) (held : Agenda) (before packets : Packets) (turn : Turn) (j : JournalData) : Type 0 where
  pub gift : Gift
  pub value : ℕ
  pub left : Agenda
  pub feeds : Feeds (is_some k.machine.state.devices.clock) one_answer k.machine.state gift value held left
  pub faults : Faults
  pub leaves : Leaves moment left_since d e (kept_of l.store.journal) (may_leave e) (disk_bytes e) j
      (Planned with_piece stays (record { key = k.press.key; own = l.machine.state.devices.own }) gift value (recording_of j k) (aside_in k) (aside_in l) l.store.batch.parts l.machine.state faults before packets (result_of turn))

-- A seal of one.
pub record SealsOn (d e : MemDisk) (k l : Desk) (before packets : Packets) (sealed : Sealed) (j : JournalData) : Type 0 where
  pub faults : Faults
  pub leaves : Leaves moment left_since d e (kept_of l.store.journal) (may_leave e) (disk_bytes e) j
      (Seals with_piece stays (signs_in k) (recording_of j k) (rows_of k.kept) l.store.batch.parts faults before packets (seal_result sealed))

-- a recorder that has stopped does nothing
pub record Ended (d e : MemDisk) (r q : Recorder) (before packets : Packets) : Type 0 where
  pub same : desk_of q ≡ desk_of r
  pub disk : e ≡ d
  pub none : packets ≡ before

-- What a turn of a recorder did, whose feed holds this; the outlet had these packets before it, and has those.
pub record TurnOf (d e : MemDisk) (r q : Recorder) (held : Agenda) (before packets : Packets) (answer : Turn) : Type 0 where
  pub goes : stop_of r ≡ None → (j : JournalData) → IsDiskOf d (desk_of r) j → Goes d e (desk_of r) (desk_of q) held before packets answer j
  pub ended : (stop : Stop) → stop_of r ≡ Some stop → (answer ≡ turn.Ended stop) × Ended d e r q before packets
  pub stop : stop_of q ≡ stop_behind (stop_of r) (result_of answer)
  pub key : (desk_of q).press.key ≡ (desk_of r).press.key
  pub run : OnOutlet (result_of answer) ((kept_of (desk_of q).store.journal).stop ≡ None)

-- What a seal did.
pub record SealOf (d e : MemDisk) (r q : Recorder) (before packets : Packets) (answer : Sealed) : Type 0 where
  pub seals : stop_of r ≡ None → (j : JournalData) → IsDiskOf d (desk_of r) j → SealsOn d e (desk_of r) (desk_of q) before packets answer j
  pub ended : (stop : Stop) → stop_of r ≡ Some stop → (answer ≡ sealed.Ended stop) × Ended d e r q before packets
  pub stop : stop_of q ≡ stop_behind (stop_of r) (seal_result answer)
  pub key : (desk_of q).press.key ≡ (desk_of r).press.key
  pub machine : (desk_of q).machine ≡ (desk_of r).machine
  pub rows : rows_of (desk_of q).kept ≡ rows_of (desk_of r).kept
  pub run : OnOutlet (seal_result answer) ((kept_of (desk_of q).store.journal).stop ≡ None)
