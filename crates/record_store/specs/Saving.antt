-- What saving a batch leaves, on a disk that tells its content.
use Rattle.std.specs.Prelude.{◌≡◌, ◌⊎◌, ℕ, List, Option, IfSome, Result, Ok, Err}
use Rattle.avm_outside.specs.Moments.{LeavesOnly}
use Rattle.avm_outside.specs.Outside.{Rises}
use Rattle.journal_model.specs.Journal.{Is, JournalData, journal_of, with_record}
use Rattle.journal_model.specs.Part.{Part}
use Rattle.jrnl_store.specs.Kept.{Kept}
use Rattle.jrnl_store.specs.Own.{IsOwn}
use Rattle.jrnl_store.specs.Writing.{Each}
use Rattle.jrnl_store.specs.declared.fault.StoreFault.{StoreFault}
use Rattle.jrnl_store.specs.declared.fault.StoreFault.TheVariants as fault
use Rattle.jrnl_store.specs.declared.fault.Stop.{Stop}
use Rattle.jrnl_store.specs.declared.fault.Stop.TheVariants.{LeavesSpent, Full, DiskFault, OutletFault, FeedFault}

-- an image stands for the journal, or for it with one record more
abbrev pub StandsWith : JournalData → List Part → List ℕ → Type 0
StandsWith j flight c = (journal_of c ≡ Is j) ⊎ (journal_of c ≡ Is (with_record j flight))

-- Behind a call the disk is the journal's own, which is now the next one; and at any moment of the call a crash leaves the journal before
-- it, or that one with the batch in flight.
pub record Holds {D : Type 0} (moment : D → ℕ) (left_since : D → ℕ → List ℕ → Type 0) (old new : D) (k : Kept) (images : List ℕ → Type 0) (now : List ℕ) (j next : JournalData) (flight : List Part) : Type 0 where
  pub own : IsOwn k images now next
  pub moments : LeavesOnly moment left_since old new (StandsWith j flight)

-- the journal that saving leaves
abbrev pub saved_to : {T : Type 0} → JournalData → List Part → Result T Stop → JournalData
saved_to j b (Ok x) = with_record j b
saved_to j b (Err stop) = j

abbrev pub why_of : StoreFault → Stop
why_of fault.LeavesSpent = LeavesSpent
why_of fault.Full = Full
why_of (fault.Ended stop) = stop
why_of fault = DiskFault

-- the count of the disk's faults rises where saving answers DiskFault, and else stays
abbrev pub SaveCounts : {T : Type 0} → ℕ → ℕ → Result T Stop → Type 0
SaveCounts before now (Ok x) = now ≡ before
SaveCounts before now (Err LeavesSpent) = now ≡ before
SaveCounts before now (Err Full) = now ≡ before
SaveCounts before now (Err DiskFault) = Rises before now
SaveCounts before now (Err OutletFault) = ⊥
SaveCounts before now (Err FeedFault) = ⊥

-- what holds where a batch was refused: no leaf is left to sign it, or the journal has no room for it
abbrev pub WhereUnsaved : {T : Type 0} → Result T Stop → Type 0 → Type 0
WhereUnsaved (Ok x) P = Unit {0}
WhereUnsaved (Err LeavesSpent) P = P
WhereUnsaved (Err Full) P = P
WhereUnsaved (Err DiskFault) P = Unit {0}
WhereUnsaved (Err OutletFault) P = Unit {0}
WhereUnsaved (Err FeedFault) P = Unit {0}

-- what the disk tells stands for the journal whose own disk it is, and so does each image that a crash may leave
abbrev pub StandsStill : Kept → (List ℕ → Type 0) → Option (List ℕ) → Type 0
StandsStill k images told = IfSome told (λ now. (j : JournalData) → IsOwn k images now j → (journal_of now ≡ Is j) × Each images (λ c. journal_of c ≡ Is j))
