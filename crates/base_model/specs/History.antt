-- Histories of a store and its spare: what each event leaves of the two, as the images that a crash may leave.
use Rattle.std.specs.Prelude.{◌≡◌, ◌⊎◌, List, [], ◌∷◌, ℕ}
use Rattle.base_model.specs.Spare.{IsFree, IsRetired, IsSafe, OneOpens}

pub record Disks : Type 1 where
  pub store : List ℕ → Type 0
  pub spare : List ℕ → Type 0

-- A crash, a reading call or a sync: each disk leaves nothing that it didn't before.
pub record Lessens (old new : Disks) : Type 0 where
  pub store : (c : List ℕ) → new.store c → old.store c
  pub spare : (e : List ℕ) → new.spare e → old.spare e

-- some image has no mark
abbrev pub IsMarkless : (List ℕ → Type 0) → Type 0
IsMarkless images = (c : List ℕ) × images c × (IsRetired c → ⊥)

-- A turn or a seal on a store without a mark, whole or cut: the spare stands still.
pub record Records (old new : Disks) : Type 0 where
  pub unmarked : IsMarkless old.store
  pub spare : (e : List ℕ) → new.spare e → old.spare e

-- at each moment of the two disks
abbrev pub AreSafe : Disks → Type 0
AreSafe d = (c e : List ℕ) → d.store c → d.spare e → IsSafe c e

-- each image of the spare is free
abbrev pub IsUnused : Disks → Type 0
IsUnused d = (e : List ℕ) → d.spare e → IsFree e

-- what a crash leaves is one image of each
abbrev pub CutAt : List ℕ → List ℕ → Disks
CutAt c e = record { store = λ x. x ≡ c; spare = λ x. x ≡ e }

-- A retain of a store without a mark, whole or cut at any moment, as its contract says: from a spare that is free.
pub record Retains (old new : Disks) : Type 0 where
  pub unmarked : IsMarkless old.store
  pub together : IsUnused old → AreSafe new

-- Calls on the spare while every image of the store has the mark: a retain that is run again, and its life as the store.
pub record Serves (old new : Disks) : Type 0 where
  pub marked : (c : List ℕ) → old.store c → IsRetired c
  pub store : (c : List ℕ) → new.store c → old.store c

abbrev pub IsEvent : Disks → Disks → Type 0
IsEvent old new = Lessens old new ⊎ Records old new ⊎ Retains old new ⊎ Serves old new

-- at every state of a history at most one of the two disks opens for more
abbrev pub OneOpensIn : Disks → Type 0
OneOpensIn d = (c e : List ℕ) → d.store c → d.spare e → OneOpens c e

-- ---- of disks

-- what a crash now may leave of a store's disk and a spare's
abbrev pub disks : {D E : Type 0} → (D → List ℕ → Type 0) → (E → List ℕ → Type 0) → D × E → Disks
disks store spare both = record { store = store both.0; spare = spare both.1 }

-- two disks one after another, each the last one's next
abbrev pub IsHistory : {D E : Type 0} → (D → List ℕ → Type 0) → (E → List ℕ → Type 0) → D × E → List (D × E) → Type 0
IsHistory store spare both [] = Unit {0}
IsHistory store spare both (next ∷ later) = IsEvent (disks store spare both) (disks store spare next) × IsHistory store spare next later

abbrev pub OneAlways : {D E : Type 0} → (D → List ℕ → Type 0) → (E → List ℕ → Type 0) → D × E → List (D × E) → Type 0
OneAlways store spare both [] = OneOpensIn (disks store spare both)
OneAlways store spare both (next ∷ later) = OneOpensIn (disks store spare both) × OneAlways store spare next later
