-- A bottom key that is bound in the roll on a disk, or why it isn't.
use Rattle.std.specs.Prelude.{◌≡◌, ◌≢◌, ◌⊎◌, ◌<◌, ℕ, List, length, Option, Some, None, Result, Ok, Err}
use Rattle.hss_command.specs.declared.ends.End.{End}
use Rattle.hss_command.specs.declared.ends.End.TheVariants.{RefusedNoStore, RefusedKey, RefusedLeaves}
use Rattle.hss_model.specs.Roll.{RollData, roll_of, most_of, with_bottom, IsBound, IsUnbound, IsEither, IsRollDisk}
use Rattle.lms_hss.specs.declared.granted.Granted.{Granted}

-- what is read before and after, where the disk tells its bytes
abbrev pub WhereTold : Option (List ℕ) → Option (List ℕ) → (List ℕ → List ℕ → Type 0) → Type 0
WhereTold None now R = Unit {0}
WhereTold (Some was) None R = ⊥
WhereTold (Some was) (Some n) R = R was n

-- the bytes are a roll of this HSS key
abbrev pub IsRollOf : List ℕ → List ℕ → RollData → Type 0
IsRollOf key was r = (roll_of was ≡ Some r) × (r.key ≡ key)

-- the key stood at this leaf, or it was bound to it, which is the first that was free; and the disk is the roll's then
abbrev pub Binds : RollData → List ℕ → (List ℕ → Type 0) → List ℕ → ℕ → Type 0
Binds r bottom images now leaf =
    (IsBound r.bottoms bottom leaf × IsRollDisk images now r)
    ⊎ (IsUnbound r.bottoms bottom × (leaf ≡ length r.bottoms) × (length r.bottoms < most_of r.key) × IsRollDisk images now (with_bottom r bottom))

-- no roll; a roll of another key; or one in which the key isn't bound and no leaf is free
abbrev pub RollRefuses : List ℕ → List ℕ → (List ℕ → Type 0) → End → List ℕ → List ℕ → Type 0
RollRefuses key bottom images RefusedNoStore was now = (roll_of was ≡ None) × (now ≡ was)
RollRefuses key bottom images RefusedKey was now = (r : RollData) × (roll_of was ≡ Some r) × (r.key ≢ key) × (now ≡ was)
RollRefuses key bottom images RefusedLeaves was now = (r : RollData) × IsRollOf key was r × IsUnbound r.bottoms bottom × (length r.bottoms ≡ most_of r.key) × IsRollDisk images now r
RollRefuses key bottom images end was now = ⊥

abbrev pub RollGrants : List ℕ → List ℕ → (List ℕ → Type 0) → ℕ → List ℕ → List ℕ → Type 0
RollGrants key bottom images leaf was now = (r : RollData) × IsRollOf key was r × Binds r bottom images now leaf

abbrev pub GrantAnswers : List ℕ → List ℕ → (List ℕ → Type 0) → Result Granted End → List ℕ → List ℕ → Type 0
GrantAnswers key bottom images (Ok g) was now = RollGrants key bottom images g.leaf was now
GrantAnswers key bottom images (Err end) was now = RollRefuses key bottom images end was now

-- what stands on the disk whatever comes: what stood there, or its roll, or that with the key behind the others
abbrev pub Stands : List ℕ → List ℕ → List ℕ → Type 0
Stands bottom was now = (now ≡ was) ⊎ ((r : RollData) × (roll_of was ≡ Some r) × IsEither r bottom now)

-- an end that the roll gives
abbrev pub IsRollRefusal : End → Type 0
IsRollRefusal RefusedNoStore = Unit {0}
IsRollRefusal RefusedKey = Unit {0}
IsRollRefusal RefusedLeaves = Unit {0}
IsRollRefusal end = ⊥
