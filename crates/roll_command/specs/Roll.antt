-- The command that makes a roll.
use Rattle.std.specs.Prelude.{◌≡◌, ◌≢◌, ◌∷◌, [], ℕ, List, length, Option, Some, None}
use Rattle.avm_outside.specs.Outside.{Rises, BothTold}
use Rattle.avm_model.specs.Keys.{KeyData, key_file, public_of}
use Rattle.command_parts.specs.Printing.{line, Printed}
use Rattle.format_command.specs.Outcomes.{Counted}
use Rattle.hss_model.specs.Hss.{hss_key}
use Rattle.hss_model.specs.Roll.{RollData, IsRollDisk}
use Rattle.hss_command.specs.Inputs.{IsInput, IsTold}
use Rattle.hss_command.specs.Outcomes.{Outcome, Ended, NoMemory, FaultFiles, FaultDisk, status_of_outcome, text_of_outcome}
use Rattle.hss_command.specs.declared.ends.FileOption.TheVariants.{Key}
use Rattle.hss_command.specs.declared.ends.End.{End}
use Rattle.hss_command.specs.declared.ends.End.TheVariants.{RollMade, RefusedFile, RefusedNotEmpty}

-- the roll of a private key's HSS key, without bottom keys
abbrev pub empty_roll : KeyData → RollData
empty_roll k = record { key = hss_key (public_of k); bottoms = [] }

-- the disk was empty, and is this roll's
abbrev pub IsMade : KeyData → (List ℕ → Type 0) → List ℕ → List ℕ → Type 0
IsMade k images was now = (length was ≡ 0) × IsRollDisk images now (empty_roll k)

-- there was something on the disk, and it is still there
abbrev pub IsKept : List ℕ → List ℕ → Type 0
IsKept was now = (length was ≡ 0 → ⊥) × (now ≡ was)

-- the end by the key's file and the disk; `quiet` is that no call was made on the disk
abbrev pub RollEnd : Option (Option (List ℕ)) → Option (List ℕ) → Option (List ℕ) → (List ℕ → Type 0) → Type 0 → End → Type 0
RollEnd told was now images quiet (RefusedFile Key) = IsInput key_file told None × quiet
RollEnd told was now images quiet RollMade = (k : KeyData) × IsInput key_file told (Some k) × BothTold was now (IsMade k images)
RollEnd told was now images quiet RefusedNotEmpty = (k : KeyData) × IsInput key_file told (Some k) × BothTold was now IsKept
RollEnd told was now images quiet end = ⊥

abbrev pub RollReaches : Option (Option (List ℕ)) → Option (List ℕ) → Option (List ℕ) → (List ℕ → Type 0) → Type 0 → Counted → Outcome → Type 0
RollReaches told was now images quiet c (Ended end) = RollEnd told was now images quiet end × (c.files_now ≡ c.files_before) × (c.disk_now ≡ c.disk_before)
RollReaches told was now images quiet c NoMemory = quiet × (c.files_now ≡ c.files_before) × (c.disk_now ≡ c.disk_before)
RollReaches told was now images quiet c FaultFiles = quiet × Rises c.files_before c.files_now × (c.disk_now ≡ c.disk_before)
RollReaches told was now images quiet c FaultDisk = Rises c.disk_before c.disk_now × (c.files_now ≡ c.files_before)

-- the outcome with its line and its status
abbrev pub RollEnds : Option (Option (List ℕ)) → Option (List ℕ) → Option (List ℕ) → (List ℕ → Type 0) → Type 0 → Counted → Option (List ℕ) → Option (List ℕ) → ℕ → Type 0
RollEnds told was now images quiet c before after result =
    (o : Outcome) × RollReaches told was now images quiet c o × Printed (line (text_of_outcome o) ∷ []) (status_of_outcome o) c.out_before c.out_now before after result

-- It ends with 0 exactly where the file is a private key's and the disk is empty, but for a fault of the outside and want of memory;
-- and then the disk is the roll of that key without bottom keys.
pub record RollMeans (told : Option (Option (List ℕ))) (was now : Option (List ℕ)) (images : List ℕ → Type 0) (result : ℕ) : Type 0 where
  pub done : result ≡ 0 → (k : KeyData) × IsInput key_file told (Some k) × BothTold was now (IsMade k images)
  pub does : (k : KeyData) → IsTold key_file told k → was ≡ Some [] → result ≢ 4 → result ≢ 5 → result ≡ 0
