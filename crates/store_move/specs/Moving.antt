-- How a store's move ends.
use Rattle.std.specs.Prelude.{◌≡◌, ◌⊎◌, ◌^◌, ◌≤◌, ℕ, List, length, Option, Some, None, Result, Ok, Err}
use Rattle.avm_outside.specs.Outside.{Rises}
use Rattle.base_model.specs.Spare.{Active, Free, IsActive, IsFree, IsKind, IsWhole, Other, Prepared}
use Rattle.journal_model.specs.Spelling.{mark_items}
use Rattle.jrnl_store.specs.Kept.{Kept}
use Rattle.jrnl_store.specs.Own.{IsFull}
use Rattle.jrnl_store.specs.declared.fault.StoreFault.{StoreFault}
use Rattle.jrnl_store.specs.declared.fault.StoreFault.TheVariants as store
use Rattle.spare_base.specs.declared.kind.Spare.{Spare}
use Rattle.spare_base.specs.declared.kind.Spare.TheVariants as spare
use Rattle.spare_disk.specs.Activating.{Each}
use Rattle.store_move.specs.declared.fault.RetainFault.{RetainFault}
use Rattle.store_move.specs.declared.fault.RetainFault.TheVariants as fault

-- a mark that isn't written: it doesn't fit, or the disk failed
abbrev pub of_retire : StoreFault → RetainFault
of_retire store.Full = fault.Full
of_retire e = fault.DiskFault

-- Full exactly where the mark doesn't fit, but for a spare that fails before
abbrev pub MoveCause : {T : Type 0} → Kept → ℕ → Result T RetainFault → Type 0
MoveCause k n (Ok t) = IsFull k (mark_items n) → ⊥
MoveCause k n (Err fault.DiskFault) = IsFull k (mark_items n) → ⊥
MoveCause k n (Err fault.SpareFault) = Unit {0}
MoveCause k n (Err fault.Full) = IsFull k (mark_items n)
MoveCause k n (Err e) = ⊥

-- a base, of which these are the bytes behind its first, is longer than a journal can be
abbrev pub IsLong : List ℕ → Type 0
IsLong behind = 2 ^ 30 ≤ length behind

-- Full exactly where the base is too long or the mark doesn't fit, but for a spare that fails before
abbrev pub ShortCause : {T : Type 0} → List ℕ → Kept → ℕ → Result T RetainFault → Type 0
ShortCause behind k n (Ok t) = (IsLong behind → ⊥) × (IsFull k (mark_items n) → ⊥)
ShortCause behind k n (Err fault.DiskFault) = (IsLong behind → ⊥) × (IsFull k (mark_items n) → ⊥)
ShortCause behind k n (Err fault.SpareFault) = IsLong behind → ⊥
ShortCause behind k n (Err fault.Full) = IsLong behind ⊎ IsFull k (mark_items n)
ShortCause behind k n (Err e) = ⊥

-- a fault only where that disk's count rose, and else neither rises
abbrev pub MoveCounts : {T : Type 0} → ℕ → ℕ → ℕ → ℕ → Result T RetainFault → Type 0
MoveCounts disk disk_now spare spare_now (Err fault.DiskFault) = Rises disk disk_now × (spare_now ≡ spare)
MoveCounts disk disk_now spare spare_now (Err fault.SpareFault) = (disk_now ≡ disk) × Rises spare spare_now
MoveCounts disk disk_now spare spare_now r = (disk_now ≡ disk) × (spare_now ≡ spare)

-- how the end of a move that was cut answers, by what the spare is
abbrev pub EndCause : {T : Type 0} → Spare → Result T RetainFault → Type 0
EndCause spare.Active (Ok t) = Unit {0}
EndCause spare.Active (Err e) = ⊥
EndCause spare.Prepared (Ok t) = Unit {0}
EndCause spare.Prepared (Err fault.SpareFault) = Unit {0}
EndCause spare.Prepared (Err e) = ⊥
EndCause spare.Free (Err fault.OtherSpare) = Unit {0}
EndCause spare.Free r = ⊥
EndCause spare.Other (Err fault.OtherSpare) = Unit {0}
EndCause spare.Other r = ⊥

abbrev pub EndCounts : {T : Type 0} → ℕ → ℕ → Result T RetainFault → Type 0
EndCounts before now (Err fault.SpareFault) = Rises before now
EndCounts before now r = now ≡ before

-- what the answer of a store that moves, or of a move that is ended, may be
abbrev pub IsOfMoving : {T : Type 0} → Result T RetainFault → Type 0
IsOfMoving (Ok t) = Unit {0}
IsOfMoving (Err fault.DiskFault) = Unit {0}
IsOfMoving (Err fault.SpareFault) = Unit {0}
IsOfMoving (Err fault.NotEmpty) = Unit {0}
IsOfMoving (Err fault.Full) = Unit {0}
IsOfMoving (Err fault.OtherSpare) = Unit {0}
IsOfMoving (Err e) = ⊥

-- ---- what stands on the disks

-- no journal's first byte, or the whole base
abbrev pub IsFreeOrWhole : List ℕ → List ℕ → Type 0
IsFreeOrWhole behind e = IsFree e ⊎ IsWhole behind e

-- what the spare may have at a moment: what it had before, or one of these
abbrev pub IsSpareImage : (List ℕ → Type 0) → List ℕ → List ℕ → Type 0
IsSpareImage images behind e = images e ⊎ IsFreeOrWhole behind e

-- where the mark doesn't fit
abbrev pub WhereFull : {T : Type 0} → Result T RetainFault → Type 0 → Type 0
WhereFull (Err fault.Full) P = P
WhereFull r P = Unit {0}

-- what a refusal leaves of the store's disk and of the spare; a mark that doesn't fit is found behind a spare that was prepared
abbrev pub WhereRefused : {T : Type 0} → List ℕ → Result T RetainFault → Type 0 → Type 0 → Type 0
WhereRefused behind (Err fault.NotEmpty) D S = D × S
WhereRefused behind (Err fault.OtherSpare) D S = D × S
WhereRefused behind (Err fault.Full) D S = D × (IsLong behind → S)
WhereRefused behind r D S = Unit {0}

-- ---- what a spare is, and how a retain answers

-- a base is to be written there
abbrev pub IsOpen : List ℕ → List ℕ → List ℕ → Type 0
IsOpen header behind was = IsKind header behind Free was ⊎ IsKind header behind Prepared was

-- the answers of a store without a mark
abbrev pub OpenAnswers : {T : Type 0} → Kept → ℕ → List ℕ → List ℕ → List ℕ → Result T RetainFault → Type 0
OpenAnswers k at header behind was (Ok t) = IsOpen header behind was × (IsLong behind → ⊥) × (IsFull k (mark_items at) → ⊥)
OpenAnswers k at header behind was (Err fault.DiskFault) = IsOpen header behind was × (IsLong behind → ⊥) × (IsFull k (mark_items at) → ⊥)
OpenAnswers k at header behind was (Err fault.SpareFault) = Unit {0}
OpenAnswers k at header behind was (Err fault.Full) = IsOpen header behind was × (IsLong behind ⊎ IsFull k (mark_items at))
OpenAnswers k at header behind was (Err fault.NotEmpty) = IsKind header behind Active was ⊎ IsKind header behind Other was
OpenAnswers k at header behind was (Err e) = ⊥

-- and of one that has it
abbrev pub RetiredAnswers : {T : Type 0} → List ℕ → List ℕ → List ℕ → Result T RetainFault → Type 0
RetiredAnswers header behind was (Ok t) = IsKind header behind Active was ⊎ IsKind header behind Prepared was
RetiredAnswers header behind was (Err fault.SpareFault) = Unit {0}
RetiredAnswers header behind was (Err fault.OtherSpare) = IsKind header behind Free was ⊎ IsKind header behind Other was
RetiredAnswers header behind was (Err e) = ⊥

abbrev pub AnswersBy : {T : Type 0} → Option ℕ → Kept → ℕ → List ℕ → List ℕ → List ℕ → Result T RetainFault → Type 0
AnswersBy None k at header behind was r = OpenAnswers k at header behind was r
AnswersBy (Some n) k at header behind was r = RetiredAnswers header behind was r

abbrev pub KindAnswers : {T : Type 0} → Kept → ℕ → List ℕ → List ℕ → List ℕ → Result T RetainFault → Type 0
KindAnswers k at header behind was r = AnswersBy k.mark k at header behind was r

-- the base stands on the spare whole; or it was active, and is as it was
abbrev pub HasBase : List ℕ → List ℕ → (List ℕ → Type 0) → List ℕ → List ℕ → Type 0
HasBase header behind images was now = (IsWhole behind now × Each images (λ c. c ≡ now)) ⊎ (IsActive header was × (now ≡ was))
