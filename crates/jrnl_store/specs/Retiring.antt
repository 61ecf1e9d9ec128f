-- A store that is retired: the mark behind its last record.
use Rattle.std.specs.Prelude.{◌≡◌, ◌⊎◌, ◌+◌, ℕ, List, None, Some, Result, Ok, Err}
use Rattle.journal_model.specs.Journal.{JournalData, Is, journal_of}
use Rattle.journal_model.specs.Spelling.{mark_items}
use Rattle.jrnl_store.specs.Kept.{Kept}
use Rattle.jrnl_store.specs.Own.{IsFull}
use Rattle.jrnl_store.specs.declared.fault.StoreFault.{StoreFault}
use Rattle.jrnl_store.specs.declared.fault.StoreFault.TheVariants as fault
use Rattle.jrnl_store.specs.declared.fault.Stop.TheVariants as stop

abbrev pub with_mark_at : JournalData → ℕ → JournalData
with_mark_at j n = record j { mark = Some n }

-- the journal behind the call
abbrev pub after_retire : {T : Type 0} → JournalData → ℕ → Result T StoreFault → JournalData
after_retire j n (Ok t) = with_mark_at j n
after_retire j n (Err e) = j

-- the image stands for the journal, or for it with the mark
abbrev pub StandsForMarked : JournalData → ℕ → List ℕ → Type 0
StandsForMarked j n c = (journal_of c ≡ Is j) ⊎ (journal_of c ≡ Is (with_mark_at j n))

-- the cause of each answer
abbrev pub RetireCause : {T : Type 0} → Kept → ℕ → Result T StoreFault → Type 0
RetireCause k n (Ok t) = (k.stop ≡ None) × (IsFull k (mark_items n) → ⊥)
RetireCause k n (Err fault.NoMemory) = ⊥
RetireCause k n (Err fault.DiskFault) = (k.stop ≡ None) × (IsFull k (mark_items n) → ⊥)
RetireCause k n (Err fault.NotEmpty) = ⊥
RetireCause k n (Err fault.NoStore) = ⊥
RetireCause k n (Err (fault.Damaged p)) = ⊥
RetireCause k n (Err fault.LeavesSpent) = ⊥
RetireCause k n (Err fault.Full) = (k.stop ≡ None) × IsFull k (mark_items n)
RetireCause k n (Err (fault.Ended s)) = k.stop ≡ Some s

-- what the call leaves in the value
abbrev pub RetireLeaves : {T : Type 0} → Kept → ℕ → Kept → Result T StoreFault → Type 0
RetireLeaves k n new (Ok t) = new ≡ record k { gate = k.gate + 5 + 9; mark = Some n }
RetireLeaves k n new (Err fault.NoMemory) = new ≡ k
RetireLeaves k n new (Err fault.DiskFault) = new ≡ record k { stop = Some stop.DiskFault }
RetireLeaves k n new (Err fault.NotEmpty) = new ≡ k
RetireLeaves k n new (Err fault.NoStore) = new ≡ k
RetireLeaves k n new (Err (fault.Damaged p)) = new ≡ k
RetireLeaves k n new (Err fault.LeavesSpent) = new ≡ k
RetireLeaves k n new (Err fault.Full) = new ≡ record k { stop = Some stop.Full }
RetireLeaves k n new (Err (fault.Ended s)) = new ≡ k
