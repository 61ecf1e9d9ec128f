-- How retaining a store answers, by the bytes of the store and of the spare, and what it leaves of both.
use Rattle.std.specs.Prelude.{◌≡◌, ◌⊎◌, ◌^◌, ◌≤◌, true, false, ℕ, List, drop, length, Option, Some, None, IfSome, Result, Ok, Err}
use Rattle.avm_model.specs.HeadReading.{head_of}
use Rattle.avm_model.specs.Machine.{State}
use Rattle.avm_outside.specs.Moments.{LeavesOnly}
use Rattle.base_build.specs.Building.{HasHead, IsOut}
use Rattle.base_build.specs.Judging.{can_begin, is_other}
use Rattle.base_model.specs.Base.{base_bytes, base_header, moved_at, moved_state}
use Rattle.base_model.specs.Spare.{IsActive, IsFree, IsWhole, TogetherOnly}
use Rattle.export_model.specs.Exports.{IsStateAt}
use Rattle.honest_model.specs.Keeps.{IsStretch}
use Rattle.journal_model.specs.Journal.{Damaged, Is, JournalData, NoStore, entries, has_snap, journal_of}
use Rattle.journal_model.specs.Saving.{last_gate}
use Rattle.journal_model.specs.Spelling.{header_bytes}
use Rattle.jrnl_store.specs.Kept.{Kept, kept}
use Rattle.jrnl_store.specs.declared.journal.Journal.{Journal}
use Rattle.jrnl_store.specs.Own.{AreKept, IsOwn}
use Rattle.jrnl_store.specs.Retiring.{StandsForMarked, with_mark_at}
use Rattle.jrnl_store.specs.declared.fault.StoreFault.{StoreFault}
use Rattle.jrnl_store.specs.declared.fault.StoreFault.TheVariants as store
use Rattle.spare_disk.specs.Activating.{Each}
use Rattle.store_move.specs.Moving.{KindAnswers}
use Rattle.store_move.specs.declared.fault.RetainFault.{RetainFault}
use Rattle.store_move.specs.declared.fault.RetainFault.TheVariants as fault

-- ---- opening

abbrev pub store_fault : StoreFault → RetainFault
store_fault store.NoMemory = fault.NoMemory
store_fault store.DiskFault = fault.DiskFault
store_fault (store.Damaged p) = fault.Damaged p
store_fault other = fault.NoStore

-- what opening the journal alone tells
abbrev pub JournalAnswers : Result Journal RetainFault → (List ℕ → Type 0) → List ℕ → Type 0
JournalAnswers (Ok v) images was = (j : JournalData) × (journal_of was ≡ Is j) × IsOwn (kept v) images was j
JournalAnswers (Err fault.NoMemory) images was = Unit {0}
JournalAnswers (Err fault.DiskFault) images was = Unit {0}
JournalAnswers (Err fault.NoStore) images was = journal_of was ≡ NoStore
JournalAnswers (Err (fault.Damaged p)) images was = journal_of was ≡ Damaged p
JournalAnswers (Err e) images was = ⊥

-- what a refusal of it may be
abbrev pub IsOfOpening : RetainFault → Type 0
IsOfOpening fault.NoMemory = Unit {0}
IsOfOpening fault.DiskFault = Unit {0}
IsOfOpening fault.NoStore = Unit {0}
IsOfOpening (fault.Damaged p) = Unit {0}
IsOfOpening e = ⊥

-- ---- answers

-- the store's journal can go on from entry n, behind which the state is s
pub record GoesOn (n : ℕ) (j : JournalData) (s : State) : Type 0 where
  pub head : HasHead j
  pub own : is_other j.mark n ≡ false
  pub stretch_is : IsStretch j n None
  pub state_is : IsStateAt j n s
  pub begins : can_begin (has_snap n (entries j)) n s.count ≡ true

-- the bytes of the base, behind its first one
abbrev pub behind_first : JournalData → ℕ → State → List ℕ
behind_first j n s = drop 1 (base_bytes j n (moved_state j n s))

abbrev pub header_of : JournalData → ℕ → State → List ℕ
header_of j n s = header_bytes (base_header j n (moved_state j n s))

-- what an open store keeps of this journal
pub record IsOpen (k : Kept) (j : JournalData) : Type 0 where
  pub keeps : AreKept k j
  pub gate : k.gate ≡ last_gate j

-- then what the spare is beside the base decides
abbrev pub BySpare : ℕ → JournalData → Option (List ℕ) → Result (Unit {0}) RetainFault → Type 0
BySpare n j other r =
    (s : State) × GoesOn n j s × IfSome other (λ e. (k : Kept) × IsOpen k j × KindAnswers k n (header_of j n s) (behind_first j n s) e r)

abbrev pub OfJournal : ℕ → JournalData → Option (List ℕ) → Result (Unit {0}) RetainFault → Type 0
OfJournal n j other (Err (fault.Unreplayed k)) = HasHead j × (is_other j.mark n ≡ false) × IsStretch j n (Some k)
OfJournal n j other (Err fault.Range) = HasHead j × ((is_other j.mark n ≡ true) ⊎ IsOut n j)
OfJournal n j other r = BySpare n j other r

-- the answers, by the store's bytes and the spare's, where that tells them
abbrev pub RetainAnswers : ℕ → List ℕ → Option (List ℕ) → Result (Unit {0}) RetainFault → Type 0
RetainAnswers n was other (Err fault.NoMemory) = Unit {0}
RetainAnswers n was other (Err fault.DiskFault) = Unit {0}
RetainAnswers n was other (Err fault.SpareFault) = Unit {0}
RetainAnswers n was other (Err (fault.Damaged p)) = journal_of was ≡ Damaged p
RetainAnswers n was other (Err fault.NoStore) = (journal_of was ≡ NoStore) ⊎ ((j : JournalData) × (journal_of was ≡ Is j) × (head_of j.header.head ≡ None))
RetainAnswers n was other r = (j : JournalData) × (journal_of was ≡ Is j) × OfJournal n j other r

-- ---- what is left

-- the base stands there whole, and no crash leaves anything else; the bytes stand for the moved journal, unless they pass a journal's length
pub record IsMovedTo (n : ℕ) (j : JournalData) (s : State) (images : List ℕ → Type 0) (now : List ℕ) : Type 0 where
  pub whole : IsWhole (behind_first j n s) now
  pub only : Each images (λ c. c ≡ now)
  pub stands : length (base_bytes j n (moved_state j n s)) ≤ 2 ^ 30 → journal_of now ≡ Is (moved_at j n s)

-- behind Ok: the spare stands for the moved journal, or it was active and is as it was
abbrev pub Opens : ℕ → List ℕ → (List ℕ → Type 0) → List ℕ → List ℕ → Type 0
Opens n was images before now =
    (j : JournalData) × (journal_of was ≡ Is j) × (s : State) × GoesOn n j s × (IsMovedTo n j s images now ⊎ (IsActive (header_of j n s) before × (now ≡ before)))

-- behind Ok: the store, and each image that a crash may leave of it, stands for its journal with the mark that names entry n
abbrev pub Retires : ℕ → (List ℕ → Type 0) → List ℕ → List ℕ → Type 0
Retires n images was now = (j : JournalData) × (journal_of was ≡ Is j) × (journal_of now ≡ Is (with_mark_at j n)) × Each images (λ c. journal_of c ≡ Is (with_mark_at j n))

-- a refusal that comes before anything is called on the spare
abbrev pub IsOfStore : RetainFault → Type 0
IsOfStore fault.NoMemory = Unit {0}
IsOfStore fault.NoStore = Unit {0}
IsOfStore (fault.Damaged p) = Unit {0}
IsOfStore (fault.Unreplayed k) = Unit {0}
IsOfStore fault.Range = Unit {0}
IsOfStore e = ⊥

-- what a refusal leaves, where `reads` is that the store was only read, `quiet` that nothing was called on the spare, and `same` that
-- the spare's bytes are as before. A mark that doesn't fit is found behind a spare that was prepared.
abbrev pub WhereLeft : Result (Unit {0}) RetainFault → Type 0 → Type 0 → Type 0 → Type 0
WhereLeft (Ok t) reads quiet same = Unit {0}
WhereLeft (Err fault.DiskFault) reads quiet same = Unit {0}
WhereLeft (Err fault.SpareFault) reads quiet same = Unit {0}
WhereLeft (Err fault.NotEmpty) reads quiet same = reads × same
WhereLeft (Err fault.OtherSpare) reads quiet same = reads × same
WhereLeft (Err fault.Full) reads quiet same = reads
WhereLeft (Err e) reads quiet same = reads × quiet

-- ---- at any moment

-- the bytes stand for a journal without a mark
abbrev pub IsUnmarked : List ℕ → Type 0
IsUnmarked was = (j : JournalData) × (journal_of was ≡ Is j) × (j.mark ≡ None)

-- an image of the store: one that it had before, or one that stands for its journal, with the mark that names entry n or without
abbrev pub IsStoreImage : ℕ → List ℕ → (List ℕ → Type 0) → List ℕ → Type 0
IsStoreImage n was images c = images c ⊎ ((j : JournalData) × (journal_of was ≡ Is j) × StandsForMarked j n c)

-- an image of the spare: one that it had before, or one that is free, or the moved journal's base whole
abbrev pub IsSpareImage : ℕ → List ℕ → (List ℕ → Type 0) → List ℕ → Type 0
IsSpareImage n was images e =
    images e ⊎ (IsFree e ⊎ ((j : JournalData) × (journal_of was ≡ Is j) × (s : State) × GoesOn n j s × IsWhole (behind_first j n s) e
    × (length (base_bytes j n (moved_state j n s)) ≤ 2 ^ 30 → journal_of e ≡ Is (moved_at j n s))))

-- Calls on two disks: the store's is read; then the spare, the store and the spare again are called. At any moment P holds of each
-- image that a crash may leave of the store together with each that it may leave of the spare.
pub record RetainsTogether {D E : Type 0} (moment : D → ℕ) (left_since : D → ℕ → List ℕ → Type 0) (may_leave : D → List ℕ → Type 0)
    (moment_2 : E → ℕ) (left_since_2 : E → ℕ → List ℕ → Type 0) (may_leave_2 : E → List ℕ → Type 0)
    (store store_new : D) (spare spare_new : E) (P : List ℕ → List ℕ → Type 0) : Type 0 where
  pub read : D
  pub reading : LeavesOnly moment left_since store read (λ c. (e : List ℕ) → may_leave_2 spare e → P c e)
  pub moving : TogetherOnly moment left_since may_leave moment_2 left_since_2 may_leave_2 read store_new spare spare_new P
