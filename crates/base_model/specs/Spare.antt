-- A spare: the disk to which a store moves, and what may stand on it. Its place 0 is written last.
use Rattle.std.specs.Prelude.{◌≡◌, ◌⊎◌, ℕ, ◌+◌, ◌^◌, ◌<◌, ◌≤◌, ◌==◌, false, List, [], ◌∷◌, ◌++◌, length, slice_index, Some}
use Rattle.journal_model.specs.Journal.{JournalData, journal_of, Is}
use Rattle.avm_outside.specs.Moments.{Begins, LeavesOnly}

-- the first byte of a journal
abbrev pub first_byte : ℕ
first_byte = 0x41

-- a byte stands at place 0, and it isn't a journal's first
abbrev pub IsBlank : List ℕ → Type 0
IsBlank c = (gate : ℕ) × (rest : List ℕ) × (c ≡ gate ∷ rest) × ((gate == first_byte) ≡ false)

-- at most one byte, or a first byte that isn't a journal's
abbrev pub IsFree : List ℕ → Type 0
IsFree c = (length c ≤ 1) ⊎ IsBlank c

-- only 00 from a place on, as far as a disk can be written
abbrev pub IsClear : ℕ → List ℕ → Type 0
IsClear from c = (p : ℕ) → from ≤ p → p < length c → p < 2 ^ 31 → slice_index c p ≡ 0

-- a base's bytes behind its first one, another byte before them, and only 00 behind them
pub record IsPrepared (behind : List ℕ) (c : List ℕ) : Type 0 where
  pub gate : ℕ
  pub rest : List ℕ
  pub bytes : c ≡ gate ∷ (behind ++ rest)
  pub shut : (gate == first_byte) ≡ false
  pub clear : IsClear (length behind + 1) c

-- the whole of a base, and only 00 behind it
pub record IsWhole (behind : List ℕ) (c : List ℕ) : Type 0 where
  pub rest : List ℕ
  pub bytes : c ≡ first_byte ∷ (behind ++ rest)
  pub clear : IsClear (length behind + 1) c

-- a header, and an open gate behind it
abbrev pub IsActive : List ℕ → List ℕ → Type 0
IsActive header c = Begins (header ++ 1 ∷ []) c

-- ---- which of two disks a store is on

abbrev pub IsJournal : List ℕ → Type 0
IsJournal c = (j : JournalData) × (journal_of c ≡ Is j)

-- a journal that has a mark
abbrev pub IsRetired : List ℕ → Type 0
IsRetired c = (j : JournalData) × (n : ℕ) × (journal_of c ≡ Is j) × (j.mark ≡ Some n)

-- an image of the store and one of the spare: where the spare's is a journal, the store's has a mark
abbrev pub OneOpens : List ℕ → List ℕ → Type 0
OneOpens store spare = IsJournal spare → IsRetired store

-- the same, as every call keeps it
abbrev pub IsSafe : List ℕ → List ℕ → Type 0
IsSafe store spare = IsFree spare ⊎ IsRetired store

-- Calls on two disks, on one at a time: the spare's, then the store's, then the spare's again. At any moment P holds of each image that a
-- crash may leave of the store together with each that it may leave of the spare.
pub record TogetherOnly {D E : Type 0} (moment : D → ℕ) (left_since : D → ℕ → List ℕ → Type 0) (may_leave : D → List ℕ → Type 0)
    (moment_2 : E → ℕ) (left_since_2 : E → ℕ → List ℕ → Type 0) (may_leave_2 : E → List ℕ → Type 0)
    (store store_new : D) (spare spare_new : E) (P : List ℕ → List ℕ → Type 0) : Type 0 where
  pub between : E
  pub first : LeavesOnly moment_2 left_since_2 spare between (λ e. (c : List ℕ) → may_leave store c → P c e)
  pub second : LeavesOnly moment left_since store store_new (λ c. (e : List ℕ) → may_leave_2 between e → P c e)
  pub third : LeavesOnly moment_2 left_since_2 between spare_new (λ e. (c : List ℕ) → may_leave store_new c → P c e)

-- ---- what a spare is

pub data SpareKind : Type 0 where
  Free : SpareKind
  Prepared : SpareKind
  Active : SpareKind
  Other : SpareKind

-- the first of these that applies, for a base's header and the base's bytes behind its first
abbrev pub IsKind : List ℕ → List ℕ → SpareKind → List ℕ → Type 0
IsKind header behind Active c = IsActive header c
IsKind header behind Prepared c = (IsActive header c → ⊥) × IsPrepared behind c
IsKind header behind Free c = (IsActive header c → ⊥) × (IsPrepared behind c → ⊥) × IsFree c
IsKind header behind Other c = (IsActive header c → ⊥) × (IsPrepared behind c → ⊥) × (IsFree c → ⊥)
