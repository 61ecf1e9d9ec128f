-- The command that binds a store's key to a leaf of a top key, and writes its endorsement.
use Rattle.std.specs.Prelude.{◌≡◌, ◌≢◌, ◌⊎◌, ◌<◌, ◌∷◌, [], ℕ, List, length, Option, Some, None}
use Rattle.avm_model.specs.Keys.{KeyData, key_file, public_of, sig_of}
use Rattle.avm_outside.specs.Outside.{Rises}
use Rattle.command_parts.specs.FileMap.{FileMap}
use Rattle.command_parts.specs.Printing.{line, Printed}
use Rattle.evid_file.specs.Pieces.{Written, LeavesFront}
use Rattle.format_command.specs.Outcomes.{Counted}
use Rattle.hss_command.specs.Inputs.{IsInput, IsTold, public_key_in}
use Rattle.hss_command.specs.Outcomes.{Outcome, Ended, NoMemory, FaultFiles, FaultDisk, status_of_outcome, text_of_outcome}
use Rattle.hss_command.specs.declared.ends.FileOption.TheVariants.{Key, Public}
use Rattle.hss_command.specs.declared.ends.End.{End}
use Rattle.hss_command.specs.declared.ends.End.TheVariants.{Enrolled, RefusedFile}
use Rattle.hss_model.specs.Hss.{hss_key}
use Rattle.hss_model.specs.HssFile.{endorsement_bytes}
use Rattle.hss_model.specs.Roll.{RollData, most_of, IsUnbound}
use Rattle.roll_command.specs.Granting.{WhereTold, IsRollOf, IsRollRefusal, RollGrants, RollRefuses, Stands}

-- the names of the files
pub record Names : Type 0 where
  pub key : List ℕ
  pub public : List ℕ
  pub endorse : List ℕ

-- the private key and the public key that the files are
pub record Inputs (n : Names) (old : FileMap) (k : KeyData) (bottom : List ℕ) : Type 0 where
  pub key_is : IsInput key_file (old n.key) (Some k)
  pub public_is : IsInput public_key_in (old n.public) (Some bottom)

-- the top key's signature of the bottom key at a leaf, with the bottom key
abbrev pub endorsement : KeyData → ℕ → List ℕ → List ℕ
endorsement k leaf bottom = endorsement_bytes (record { upper = sig_of k leaf bottom; bottom = bottom })

-- the endorsement's file is as it was
abbrev pub SameEndorsement : Names → FileMap → FileMap → Type 0
SameEndorsement n old new = new n.endorse ≡ old n.endorse

-- what the end says: the first refusal, or the key is bound and its endorsement written. `quiet` is that no call was made on the disk.
abbrev pub EnrollEnd : Names → FileMap → FileMap → Option (List ℕ) → Option (List ℕ) → (List ℕ → Type 0) → Type 0 → End → Type 0
EnrollEnd n old new was now images quiet (RefusedFile Key) = IsInput key_file (old n.key) None × SameEndorsement n old new × quiet
EnrollEnd n old new was now images quiet (RefusedFile Public) =
    (k : KeyData) × IsInput key_file (old n.key) (Some k) × IsInput public_key_in (old n.public) None × SameEndorsement n old new × quiet
EnrollEnd n old new was now images quiet (Enrolled leaf) =
    (k : KeyData) × (bottom : List ℕ) × Inputs n old k bottom × WhereTold was now (RollGrants (hss_key (public_of k)) bottom images leaf)
    × Written (endorsement k leaf bottom) (old n.endorse) (new n.endorse)
EnrollEnd n old new was now images quiet end =
    (k : KeyData) × (bottom : List ℕ) × Inputs n old k bottom × WhereTold was now (RollRefuses (hss_key (public_of k)) bottom images end)
    × SameEndorsement n old new × IsRollRefusal end

-- what a fault of the files leaves: the endorsement's file as it was, or a front of the endorsement
abbrev pub EnrollLeaves : Names → FileMap → FileMap → Type 0
EnrollLeaves n old new =
    SameEndorsement n old new
    ⊎ ((k : KeyData) × (bottom : List ℕ) × (leaf : ℕ) × Inputs n old k bottom × LeavesFront (endorsement k leaf bottom) (old n.endorse) (new n.endorse))

abbrev pub EnrollReaches : Names → FileMap → FileMap → Option (List ℕ) → Option (List ℕ) → (List ℕ → Type 0) → Type 0 → Counted → Outcome → Type 0
EnrollReaches n old new was now images quiet c (Ended end) = EnrollEnd n old new was now images quiet end × (c.files_now ≡ c.files_before) × (c.disk_now ≡ c.disk_before)
EnrollReaches n old new was now images quiet c NoMemory = SameEndorsement n old new × (c.files_now ≡ c.files_before) × (c.disk_now ≡ c.disk_before)
EnrollReaches n old new was now images quiet c FaultFiles = EnrollLeaves n old new × Rises c.files_before c.files_now × (c.disk_now ≡ c.disk_before)
EnrollReaches n old new was now images quiet c FaultDisk = SameEndorsement n old new × (c.files_now ≡ c.files_before) × Rises c.disk_before c.disk_now

-- the outcome with its line and its status
abbrev pub EnrollEnds : Names → FileMap → FileMap → Option (List ℕ) → Option (List ℕ) → (List ℕ → Type 0) → Type 0 → Counted → Option (List ℕ) → Option (List ℕ) → ℕ → Type 0
EnrollEnds n old new was now images quiet c before after result =
    (o : Outcome) × EnrollReaches n old new was now images quiet c o × Printed (line (text_of_outcome o) ∷ []) (status_of_outcome o) c.out_before c.out_now before after result

-- what stands on the disk whatever comes: what stood there, or its roll, or that with the file's key behind the others
abbrev pub StandsWith : Option (Option (List ℕ)) → List ℕ → List ℕ → Type 0
StandsWith told was now = (now ≡ was) ⊎ ((bottom : List ℕ) × IsInput public_key_in told (Some bottom) × Stands bottom was now)

-- It ends with 0 exactly where the files are a private and a public key, and the disk is a roll of the private key in which the
-- public key is bound or a leaf is free, but for a fault of the outside and want of memory; and then the key is bound, and exactly
-- its endorsement at that leaf is written.
pub record EnrollMeans (n : Names) (old new : FileMap) (was now : Option (List ℕ)) (images : List ℕ → Type 0) (result : ℕ) : Type 0 where
  pub done : result ≡ 0 → (k : KeyData) × (bottom : List ℕ) × (leaf : ℕ) × Inputs n old k bottom × WhereTold was now (RollGrants (hss_key (public_of k)) bottom images leaf)
      × Written (endorsement k leaf bottom) (old n.endorse) (new n.endorse)
  pub does : (k : KeyData) (bottom w : List ℕ) (r : RollData) → IsTold key_file (old n.key) k → IsTold public_key_in (old n.public) bottom → was ≡ Some w → IsRollOf (hss_key (public_of k)) w r
      → (IsUnbound r.bottoms bottom → length r.bottoms < most_of r.key) → result ≢ 4 → result ≢ 5 → result ≡ 0
