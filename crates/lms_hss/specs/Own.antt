-- What a roll's calls say of the disk.
use Rattle.std.specs.Prelude.{◌≡◌, ◌⊎◌, ℕ, Bool, true, false, ◌==◌, ◌<◌, ◌≤◌, if◌then◌else◌, List, [], ◌∷◌, length, Option, Some, None, Result, Ok, Err}
use Rattle.avm_outside.specs.Outside.{Rises}
use Rattle.avm_outside.specs.Moments.{LeavesOnly}
use Rattle.hss_model.specs.Hss.{is_hss_key}
use Rattle.hss_model.specs.Roll.{RollData, most_of, roll_end, IsRollDisk, IsBound, IsUnbound, with_bottom}
use Rattle.lms_hss.specs.declared.fault.RollFault.{RollFault}
use Rattle.lms_hss.specs.declared.fault.RollFault.TheVariants as fault
use Rattle.lms_hss.specs.declared.granted.Granted.{Granted}

-- what an open roll keeps: the HSS key, the number of bottom keys, and whether it has ended
pub record RollState : Type 0 where
  pub key : List ℕ
  pub count : ℕ
  pub is_ended : Bool

-- what always holds of it
pub record IsRollState (s : RollState) : Type 0 where
  pub key : is_hss_key s.key ≡ true
  pub few : s.count ≤ most_of s.key

-- the disk is the roll's own
pub record IsOwn (s : RollState) (images : List ℕ → Type 0) (was : List ℕ) (r : RollData) : Type 0 where
  pub key : r.key ≡ s.key
  pub count : length r.bottoms ≡ s.count
  pub disk : IsRollDisk images was r

-- the roll has a leaf left, and its end is at this place
pub record HasRoom (gate : ℕ) (images : List ℕ → Type 0) (was : List ℕ) (r : RollData) : Type 0 where
  pub disk : IsRollDisk images was r
  pub room : length r.bottoms < most_of r.key
  pub place : gate ≡ roll_end (length r.bottoms)

-- the roll has so many bottom keys, of so many at most
pub record IsCounted (count most : ℕ) (images : List ℕ → Type 0) (was : List ℕ) (r : RollData) : Type 0 where
  pub disk : IsRollDisk images was r
  pub count_is : length r.bottoms ≡ count
  pub most_is : most_of r.key ≡ most

-- calls that only read: what is told stays, and a crash leaves nothing else at any moment
pub record OnlyReads {D : Type 0} (seen : D → Option (List ℕ)) (may_leave : D → List ℕ → Type 0) (moment : D → ℕ) (left_since : D → ℕ → List ℕ → Type 0) (old new : D) : Type 0 where
  pub same : seen new ≡ seen old
  pub crash : (c : List ℕ) → may_leave new c → may_leave old c
  pub any_moment : LeavesOnly moment left_since old new (may_leave old)

-- a byte stands there, and it is a closed gate
abbrev pub is_shut : List ℕ → Bool
is_shut [] = false
is_shut (b ∷ bytes) = if b == 1 then false else true

-- where a bottom key was found, or that it isn't there
abbrev pub IsFound : Option ℕ → List (List ℕ) → List ℕ → Type 0
IsFound (Some leaf) bottoms bottom = IsBound bottoms bottom leaf
IsFound None bottoms bottom = IsUnbound bottoms bottom

-- The leaf that was bound, with the roll behind it; or none, where the key is new and no leaf is left.
abbrev pub BindAnswers : Option ℕ → (List ℕ → Type 0) → List ℕ → RollData → List ℕ → Type 0
BindAnswers None images now r bottom = IsUnbound r.bottoms bottom × (length r.bottoms ≡ most_of r.key) × IsRollDisk images now r
BindAnswers (Some leaf) images now r bottom =
    (IsBound r.bottoms bottom leaf × IsRollDisk images now r)
    ⊎ (IsUnbound r.bottoms bottom × (leaf ≡ length r.bottoms) × (length r.bottoms < most_of r.key) × IsRollDisk images now (with_bottom r bottom))

-- How `enroll` answers on its own disk: old and new state, images and read bytes behind the call.
abbrev pub EnrollAnswers : RollState → RollState → (List ℕ → Type 0) → List ℕ → RollData → List ℕ → Result Granted RollFault → Type 0
EnrollAnswers old new images now r bottom (Ok g) =
    (g.bottom ≡ bottom)
    × ((IsBound r.bottoms bottom g.leaf × IsOwn new images now r)
    ⊎ (IsUnbound r.bottoms bottom × (g.leaf ≡ length r.bottoms) × (length r.bottoms < most_of r.key) × IsOwn new images now (with_bottom r bottom)))
EnrollAnswers old new images now r bottom (Err fault.DiskFault) = Unit {0}
EnrollAnswers old new images now r bottom (Err fault.LeavesSpent) = IsUnbound r.bottoms bottom × (length r.bottoms ≡ most_of r.key) × IsOwn new images now r
EnrollAnswers old new images now r bottom (Err fault.NotEmpty) = ⊥
EnrollAnswers old new images now r bottom (Err fault.NoRoll) = ⊥
EnrollAnswers old new images now r bottom (Err fault.Ended) = ⊥

-- `Ended` exactly where the roll has ended, which it does by DiskFault
abbrev pub EnrollEnds : RollState → RollState → Result Granted RollFault → Type 0
EnrollEnds old new (Ok g) = (old.is_ended ≡ false) × (new.is_ended ≡ false)
EnrollEnds old new (Err fault.DiskFault) = (old.is_ended ≡ false) × (new.is_ended ≡ true)
EnrollEnds old new (Err fault.LeavesSpent) = (old.is_ended ≡ false) × (new ≡ old)
EnrollEnds old new (Err fault.NotEmpty) = ⊥
EnrollEnds old new (Err fault.NoRoll) = ⊥
EnrollEnds old new (Err fault.Ended) = (old.is_ended ≡ true) × (new ≡ old)

-- DiskFault only where the count rose
abbrev pub CountsFaults : {T : Type 0} → ℕ → ℕ → Result T RollFault → Type 0
CountsFaults before now (Ok x) = now ≡ before
CountsFaults before now (Err fault.DiskFault) = Rises before now
CountsFaults before now (Err fault.LeavesSpent) = now ≡ before
CountsFaults before now (Err fault.NotEmpty) = now ≡ before
CountsFaults before now (Err fault.NoRoll) = now ≡ before
CountsFaults before now (Err fault.Ended) = now ≡ before
