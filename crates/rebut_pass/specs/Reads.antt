-- Calls that only read a journal's disk, and what they tell of the journal.
use Rattle.std.specs.Prelude.{◌≡◌, ◌≤◌, ℕ, List, Option, Some, IfSome, Result, Ok, Err}
use Rattle.avm_model.specs.Machine.{State}
use Rattle.avm_outside.specs.Outside.{Rises}
use Rattle.honest_model.specs.Honest.{header_state}
use Rattle.journal_model.specs.Journal.{JournalData, Is, ended}
use Rattle.jrnl_store.specs.Kept.{Kept}
use Rattle.jrnl_store.specs.Own.{IsAt}
use Rattle.rebut_pass.specs.declared.fault.ReadFault.{ReadFault}
use Rattle.rebut_pass.specs.declared.fault.ReadFault.TheVariants as fault

-- what is told stays, and a crash leaves nothing else at any moment
pub record OnlyReads {D : Type 0} (seen : D → Option (List ℕ)) (may_leave : D → List ℕ → Type 0) (moment : D → ℕ) (left_since : D → ℕ → List ℕ → Type 0) (old new : D) : Type 0 where
  pub same : seen new ≡ seen old
  pub crash : (c : List ℕ) → may_leave new c → may_leave old c
  pub later : moment old ≤ moment new
  pub moments : (t : ℕ) (c : List ℕ) → t ≤ moment old → left_since new t c → left_since old t c

-- the count of the disk's faults rises where a call answers DiskFault, and else stays
abbrev pub ReadCounts : {T : Type 0} → ℕ → ℕ → Result T ReadFault → Type 0
ReadCounts before now (Ok t) = now ≡ before
ReadCounts before now (Err fault.NoMemory) = now ≡ before
ReadCounts before now (Err fault.DiskFault) = Rises before now

-- what holds of the journal that stands on the disk, where the disk tells it
abbrev pub OfJournal : Option (List ℕ) → Kept → (JournalData → Type 0) → Type 0
OfJournal told k P = IfSome told (λ was. (j : JournalData) → IsAt k was j → ended j ≡ Is j → P j)

-- and of the state of its header, where its head is one
abbrev pub OfState : Option (List ℕ) → Kept → (State → JournalData → Type 0) → Type 0
OfState told k P = OfJournal told k (λ j. (s : State) → header_state j.header ≡ Some s → P s j)
