-- How a roll is opened.
use Rattle.std.specs.Prelude.{◌≡◌, ℕ, Bool, ◌&&◌, List, [], length, take, drop, None, Some, Result, Ok, Err, false}
use Rattle.std.specs.Str.{bytes_eq}
use Rattle.hss_model.specs.Hss.{is_hss_key}
use Rattle.hss_model.specs.Roll.{RollData, roll_of, roll_mark}
use Rattle.lms_hss.specs.Own.{RollState, IsOwn}
use Rattle.lms_hss.specs.declared.fault.RollFault.{RollFault}
use Rattle.lms_hss.specs.declared.fault.RollFault.TheVariants as fault

-- a roll's header stands at the front of a disk
unfoldable pub has_header : List ℕ → Bool
has_header was = bytes_eq (take 5 was) roll_mark && is_hss_key (take 60 (drop 5 was))

-- how `attach` answers: by the bytes that are read, and the images that are left behind it
abbrev pub AttachAnswers : {V : Type 0} → (V → RollState) → (List ℕ → Type 0) → List ℕ → Result V RollFault → Type 0
AttachAnswers view images was (Ok v) = (r : RollData) × (roll_of was ≡ Some r) × IsOwn (view v) images was r × ((view v).is_ended ≡ false)
AttachAnswers view images was (Err fault.DiskFault) = Unit {0}
AttachAnswers view images was (Err fault.NoRoll) = roll_of was ≡ None
AttachAnswers view images was (Err fault.NotEmpty) = ⊥
AttachAnswers view images was (Err fault.LeavesSpent) = ⊥
AttachAnswers view images was (Err fault.Ended) = ⊥

-- how `make` answers: by the bytes before it and behind it, and the images that are left
abbrev pub MakeAnswers : {V : Type 0} → (V → RollState) → (List ℕ → Type 0) → List ℕ → List ℕ → List ℕ → Result V RollFault → Type 0
MakeAnswers view images was now key (Ok v) = (length was ≡ 0) × IsOwn (view v) images now (record { key = key; bottoms = [] }) × ((view v).is_ended ≡ false)
MakeAnswers view images was now key (Err fault.NotEmpty) = length was ≡ 0 → ⊥
MakeAnswers view images was now key (Err fault.DiskFault) = Unit {0}
MakeAnswers view images was now key (Err fault.NoRoll) = ⊥
MakeAnswers view images was now key (Err fault.LeavesSpent) = ⊥
MakeAnswers view images was now key (Err fault.Ended) = ⊥
