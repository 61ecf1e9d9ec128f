-- What making a journal answers, and what a journal shows.
use Rattle.std.specs.Prelude.{◌≡◌, ◌<◌, ℕ, List, [], length, Option, None, IfSome, Result, Ok, Err, if◌then◌else◌}
use Rattle.journal_model.specs.Standing.{StandingData, SignedData}
use Rattle.jrnl_store.specs.declared.journal.Journal.{Journal}
use Rattle.jrnl_store.specs.declared.fault.StoreFault.{StoreFault}
use Rattle.jrnl_store.specs.declared.fault.StoreFault.TheVariants as fault

-- the cause of each answer of making a journal, by what the disk told before and what it tells now
abbrev pub MakeCause : Option (List ℕ) → Option (List ℕ) → Result Journal StoreFault → Type 0
MakeCause old new (Ok v) = IfSome old (λ was. was ≡ [])
MakeCause old new (Err fault.NoMemory) = IfSome old (λ was. was ≡ []) × (new ≡ old)
MakeCause old new (Err fault.DiskFault) = Unit {0}
MakeCause old new (Err fault.NotEmpty) = IfSome old (λ was. 0 < length was) × (new ≡ old)
MakeCause old new (Err fault.NoStore) = ⊥
MakeCause old new (Err (fault.Damaged p)) = ⊥
MakeCause old new (Err fault.LeavesSpent) = ⊥
MakeCause old new (Err fault.Full) = ⊥
MakeCause old new (Err (fault.Ended s)) = ⊥

-- the last item's signed pair, where that item is a seal
abbrev pub sealed_in : StandingData → Option SignedData
sealed_in s = if s.sealed then s.signed else None
