-- Why a store isn't opened for recording, in the order in which it is judged.
use Rattle.std.specs.Prelude.{◌≡◌, ◌⊎◌, ℕ, List, None, Some, Result, Ok, Err}
use Rattle.avm_model.specs.HeadReading.{head_of}
use Rattle.avm_model.specs.Keys.{KeyData, public_of}
use Rattle.command_parts.specs.declared.fault.Fault.{Fault}
use Rattle.command_parts.specs.declared.fault.Fault.TheVariants.{NoMemory, Files, Disk, Sink}
use Rattle.honest_model.specs.Keeps.{IsOpenFault}
use Rattle.journal_model.specs.Journal.{JournalData, journal_of, Is, NoStore, Damaged}
use Rattle.jrnl_store.specs.Kept.{kept as kept_of}
use Rattle.record_open.specs.Opening.{IsAllowed, IsDesk}
use Rattle.jrnl_store.specs.Own.{IsOwn}
use Rattle.record_open.specs.declared.fault.RecordFault.{RecordFault}
use Rattle.record_open.specs.declared.fault.RecordFault.TheVariants as store
use Rattle.record_turn.specs.declared.desk.Desk.{Desk}
use Rattle.recorder.specs.Recorder.{desk_of}
use Rattle.recorder.specs.declared.recorder.Recorder.{Recorder}
use Rattle.record_command.specs.declared.ends.End.{End}
use Rattle.record_command.specs.declared.ends.End.TheVariants.{Recorded, RefusedFile, RefusedNoStore, RefusedDamaged, RefusedRetired, RefusedKey, RefusedJournal, RefusedLeaves, RefusedFull}

-- the bytes stand for this journal, and its header has a head
pub record HasHead (was : List ℕ) (j : JournalData) : Type 0 where
  pub is : journal_of was ≡ Is j
  pub head : head_of j.header.head ≡ None → ⊥

-- No journal, or one whose header has no head; bytes that are none behind a gate; the mark; another key; an entry that doesn't replay.
-- Each comes only where none of those before it does.
abbrev pub RefusesStore : KeyData → List ℕ → End → Type 0
RefusesStore who was (Recorded summary) = ⊥
RefusesStore who was (RefusedFile option) = ⊥
RefusesStore who was RefusedNoStore = (journal_of was ≡ NoStore) ⊎ ((j : JournalData) × (journal_of was ≡ Is j) × (head_of j.header.head ≡ None))
RefusesStore who was (RefusedDamaged p) = journal_of was ≡ Damaged p
RefusesStore who was RefusedRetired = (j : JournalData) × HasHead was j × (j.mark ≡ None → ⊥)
RefusesStore who was RefusedKey = (j : JournalData) × HasHead was j × (j.mark ≡ None) × (j.header.key ≡ public_of who → ⊥)
RefusesStore who was (RefusedJournal n) = (j : JournalData) × (journal_of was ≡ Is j) × IsAllowed who j × IsOpenFault j (Some n)
RefusesStore who was RefusedLeaves = ⊥
RefusesStore who was RefusedFull = ⊥

-- the bytes stand for a journal that the private key may record on, and the parts of the recorder are those of this journal
pub record OpensTo (who : KeyData) (images : List ℕ → Type 0) (was : List ℕ) (d : Desk) : Type 0 where
  pub journal : JournalData
  pub is : journal_of was ≡ Is journal
  pub own : IsOwn (kept_of d.store.journal) images was journal
  pub allowed : IsAllowed who journal
  pub desk : IsDesk journal d

-- what a store is opened to
abbrev pub OpenAnswers : KeyData → (List ℕ → Type 0) → List ℕ → Result (Result Recorder End) Fault → Type 0
OpenAnswers who images was (Ok (Ok r)) = OpensTo who images was (desk_of r)
OpenAnswers who images was (Ok (Err end)) = RefusesStore who was end
OpenAnswers who images was (Err fault) = Unit {0}

-- why a store can't be opened, as an end
abbrev pub refusal_of : RecordFault → Result End Fault
refusal_of store.NoMemory = Err NoMemory
refusal_of store.DiskFault = Err Disk
refusal_of store.NoStore = Ok RefusedNoStore
refusal_of (store.Damaged p) = Ok (RefusedDamaged p)
refusal_of (store.Retired n) = Ok RefusedRetired
refusal_of store.KeyMismatch = Ok RefusedKey
refusal_of (store.Unreplayed n) = Ok (RefusedJournal n)

-- an end before any turn
abbrev pub IsStoreRefusal : End → Type 0
IsStoreRefusal (Recorded summary) = ⊥
IsStoreRefusal (RefusedFile option) = ⊥
IsStoreRefusal RefusedLeaves = ⊥
IsStoreRefusal RefusedFull = ⊥
IsStoreRefusal end = Unit {0}

-- why a call on the store ends without an answer
abbrev pub IsOfStore : Fault → Type 0
IsOfStore NoMemory = Unit {0}
IsOfStore Files = ⊥
IsOfStore Disk = Unit {0}
IsOfStore Sink = ⊥
