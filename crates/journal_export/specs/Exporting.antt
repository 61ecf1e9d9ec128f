-- What exporting answers, and what it writes.
use Rattle.std.specs.Prelude.{◌≡◌, ◌⊎◌, ◌&&◌, ◌+◌, ◌^◌, ℕ, Bool, true, false, nat_le, length, List, Option, None, Some, Result, Ok, Err}
use Rattle.avm_model.specs.Head.{head_bytes}
use Rattle.avm_model.specs.HeadReading.{head_of}
use Rattle.avm_model.specs.HeadState.{data_of}
use Rattle.avm_model.specs.Machine.{State}
use Rattle.avm_model.specs.Segment.{segment_bytes, segment_front_bytes}
use Rattle.evid_file.specs.Pieces.{Written}
use Rattle.export_model.specs.Exports.{IsExport, IsStateAt, exported, in_range, range, segment_for, unreplayed}
use Rattle.honest_model.specs.Keeps.{IsStretch}
use Rattle.journal_model.specs.Journal.{Damaged, Is, JournalData, NoStore, entries, journal_of}
use Rattle.jrnl_store.specs.Kept.{kept}
use Rattle.jrnl_store.specs.Own.{IsOwn}
use Rattle.jrnl_store.specs.declared.journal.Journal.{Journal}
use Rattle.rebut_model.specs.Texts.{OfHead, from_number}
use Rattle.journal_export.specs.declared.fault.ExportFault.{ExportFault}
use Rattle.journal_export.specs.declared.fault.ExportFault.TheVariants as fault
use Rattle.journal_export.specs.declared.judging.Snapshot.{Snapshot}
use Rattle.journal_export.specs.declared.survey.Survey.{Survey}
use Rattle.stretch_replay.specs.declared.stretching.Stretched.{Stretched}

-- ---- by what both readings tell

-- the entries are a segment with this state
abbrev pub is_range : Survey → ℕ → State → Bool
is_range v last s = v.begins && nat_le v.cut.from v.cut.to && nat_le v.cut.to last && nat_le v.snaps 64 && nat_le (49 + length (head_bytes (data_of s)) + length s.ram + v.size) (2 ^ 26)

-- the snapshot, or the fault; where a clock waits there is no snapshot
abbrev pub Taken : Stretched → Survey → ℕ → Result Snapshot ExportFault → Type 0
Taken r v last (Ok s) = (r.fault ≡ None) × (is_range v last r.machine.state ≡ true) × (s.machine.state ≡ r.machine.state) × (s.before.0 ≡ v.hash.0) × (s.machine.state.devices.clock ≡ None)
Taken r v last (Err fault.NoMemory) = ⊥
Taken r v last (Err fault.DiskFault) = ⊥
Taken r v last (Err fault.FilesFault) = ⊥
Taken r v last (Err fault.NoStore) = ⊥
Taken r v last (Err (fault.Damaged p)) = ⊥
Taken r v last (Err (fault.Unreplayed n)) = r.fault ≡ Some n
Taken r v last (Err fault.Range) = (r.fault ≡ None) × ((is_range v last r.machine.state ≡ false) ⊎ ((is_range v last r.machine.state ≡ true) × (r.machine.state.devices.clock ≡ None → ⊥)))

-- ---- of a journal

-- the header has a head
abbrev pub HasHead : JournalData → Type 0
HasHead j = head_of j.header.head ≡ None → ⊥

-- a snapshot is that of the segment
pub record IsSnapshot (from to : ℕ) (j : JournalData) (s : Snapshot) : Type 0 where
  pub head : HasHead j
  pub stretch_is : IsStretch j from None
  pub state : IsStateAt j from s.machine.state
  pub before_is : s.before.0 ≡ (from_number from j.header.before (entries j)).before
  pub range_is : in_range j from to (segment_bytes (segment_for j from to s.machine.state)) ≡ true

abbrev pub Judges : ℕ → ℕ → JournalData → Result Snapshot ExportFault → Type 0
Judges from to j (Ok s) = IsSnapshot from to j s
Judges from to j (Err fault.NoMemory) = Unit {0}
Judges from to j (Err fault.DiskFault) = Unit {0}
Judges from to j (Err fault.FilesFault) = ⊥
Judges from to j (Err fault.NoStore) = head_of j.header.head ≡ None
Judges from to j (Err (fault.Damaged p)) = ⊥
Judges from to j (Err (fault.Unreplayed n)) = HasHead j × IsExport j from to (unreplayed n)
Judges from to j (Err fault.Range) = HasHead j × IsExport j from to range

-- what stands before a snapshot's pages
abbrev pub front_of : Snapshot → ℕ → List ℕ
front_of s from = segment_front_bytes (record { start = from; before = s.before.0; head = head_bytes (data_of s.machine.state) })

-- The file is the segment; its head and pages tell the state at its first entry whole.
pub record IsWritten (from to : ℕ) (j : JournalData) (old new : Option (Option (List ℕ))) : Type 0 where
  pub head : HasHead j
  pub bytes : List ℕ
  pub export_is : IsExport j from to (exported bytes)
  pub written : Written bytes old new
  pub whole : (s : State) → IsStateAt j from s → OfHead s

-- what exporting does by the journal
abbrev pub Exports : ℕ → ℕ → JournalData → Option (Option (List ℕ)) → Option (Option (List ℕ)) → Result (Unit {0}) ExportFault → Type 0
Exports from to j old new (Ok t) = IsWritten from to j old new
Exports from to j old new (Err fault.NoMemory) = Unit {0}
Exports from to j old new (Err fault.DiskFault) = Unit {0}
Exports from to j old new (Err fault.FilesFault) = Unit {0}
Exports from to j old new (Err fault.NoStore) = head_of j.header.head ≡ None
Exports from to j old new (Err (fault.Damaged p)) = ⊥
Exports from to j old new (Err (fault.Unreplayed n)) = HasHead j × IsExport j from to (unreplayed n)
Exports from to j old new (Err fault.Range) = HasHead j × IsExport j from to range

-- ---- of a disk's bytes

abbrev pub ExportAnswers : ℕ → ℕ → List ℕ → Option (Option (List ℕ)) → Option (Option (List ℕ)) → Result (Unit {0}) ExportFault → Type 0
ExportAnswers from to was old new (Ok t) = (j : JournalData) × (journal_of was ≡ Is j) × IsWritten from to j old new
ExportAnswers from to was old new (Err fault.NoMemory) = Unit {0}
ExportAnswers from to was old new (Err fault.DiskFault) = Unit {0}
ExportAnswers from to was old new (Err fault.FilesFault) = Unit {0}
ExportAnswers from to was old new (Err fault.NoStore) = (journal_of was ≡ NoStore) ⊎ ((j : JournalData) × (journal_of was ≡ Is j) × (head_of j.header.head ≡ None))
ExportAnswers from to was old new (Err (fault.Damaged p)) = journal_of was ≡ Damaged p
ExportAnswers from to was old new (Err (fault.Unreplayed n)) = (j : JournalData) × (journal_of was ≡ Is j) × HasHead j × IsExport j from to (unreplayed n)
ExportAnswers from to was old new (Err fault.Range) = (j : JournalData) × (journal_of was ≡ Is j) × HasHead j × IsExport j from to range

-- what opening the journal alone tells
abbrev pub JournalAnswers : Result Journal ExportFault → (List ℕ → Type 0) → List ℕ → Type 0
JournalAnswers (Ok v) images was = (j : JournalData) × (journal_of was ≡ Is j) × IsOwn (kept v) images was j
JournalAnswers (Err fault.NoMemory) images was = Unit {0}
JournalAnswers (Err fault.DiskFault) images was = Unit {0}
JournalAnswers (Err fault.FilesFault) images was = ⊥
JournalAnswers (Err fault.NoStore) images was = journal_of was ≡ NoStore
JournalAnswers (Err (fault.Damaged p)) images was = journal_of was ≡ Damaged p
JournalAnswers (Err (fault.Unreplayed n)) images was = ⊥
JournalAnswers (Err fault.Range) images was = ⊥

-- ---- causes

-- what a refusal before the first write may be
abbrev pub IsOfJudging : ExportFault → Type 0
IsOfJudging fault.NoMemory = Unit {0}
IsOfJudging fault.DiskFault = Unit {0}
IsOfJudging fault.FilesFault = ⊥
IsOfJudging fault.NoStore = Unit {0}
IsOfJudging (fault.Damaged p) = Unit {0}
IsOfJudging (fault.Unreplayed n) = Unit {0}
IsOfJudging fault.Range = Unit {0}

-- what may come from the first write on
abbrev pub IsOfWriting : ExportFault → Type 0
IsOfWriting fault.NoMemory = ⊥
IsOfWriting fault.DiskFault = Unit {0}
IsOfWriting fault.FilesFault = Unit {0}
IsOfWriting fault.NoStore = ⊥
IsOfWriting (fault.Damaged p) = ⊥
IsOfWriting (fault.Unreplayed n) = ⊥
IsOfWriting fault.Range = ⊥

-- what holds where nothing was written: but for a segment that is written and for faults
abbrev pub WhereUnwritten : Result (Unit {0}) ExportFault → Type 0 → Type 0
WhereUnwritten (Ok t) P = Unit {0}
WhereUnwritten (Err fault.NoMemory) P = P
WhereUnwritten (Err fault.DiskFault) P = Unit {0}
WhereUnwritten (Err fault.FilesFault) P = Unit {0}
WhereUnwritten (Err fault.NoStore) P = P
WhereUnwritten (Err (fault.Damaged p)) P = P
WhereUnwritten (Err (fault.Unreplayed n)) P = P
WhereUnwritten (Err fault.Range) P = P
