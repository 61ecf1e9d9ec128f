-- The command that turns authenticators into those under two keys.
use Rattle.std.specs.Prelude.{◌≡◌, ◌≢◌, ◌⊎◌, ◌∷◌, [], ℕ, List, Option, Some, None, length}
use Rattle.avm_outside.specs.Outside.{Rises}
use Rattle.avm_model.specs.Audit.{auths_within}
use Rattle.avm_model.specs.Auth.{AuthData}
use Rattle.evid_file.specs.Pieces.{Written, LeavesFront}
use Rattle.command_parts.specs.FileMap.{FileMap, SameFiles}
use Rattle.command_parts.specs.Printing.{line, Printed}
use Rattle.hss_model.specs.HssFile.{EndorsementData, endorsement_of, widen_of}
use Rattle.hss_command.specs.Inputs.{IsInput, IsTold}
use Rattle.hss_command.specs.Outcomes.{Outcome, Ended, NoMemory, FaultFiles, FaultDisk, status_of_outcome, text_of_outcome}
use Rattle.hss_command.specs.declared.ends.FileOption.TheVariants.{Endorse, Auths}
use Rattle.hss_command.specs.declared.ends.End.{End}
use Rattle.hss_command.specs.declared.ends.End.TheVariants.{Widened, RefusedFile}

-- the endorsement and the authenticators that the files are
pub record WidenInputs (endorse auths : List ℕ) (old : FileMap) (e : EndorsementData) (xs : List AuthData) : Type 0 where
  pub endorsement : IsInput endorsement_of (old endorse) (Some e)
  pub authenticators : IsInput auths_within (old auths) (Some xs)

-- the end by the files: the first that is refused, or the authenticators are written with the endorsement's parts
abbrev pub WidenEnd : List ℕ → List ℕ → List ℕ → FileMap → FileMap → End → Type 0
WidenEnd endorse auths into old new (RefusedFile Endorse) = IsInput endorsement_of (old endorse) None × (new into ≡ old into)
WidenEnd endorse auths into old new (RefusedFile Auths) =
    (e : EndorsementData) × IsInput endorsement_of (old endorse) (Some e) × IsInput auths_within (old auths) None × (new into ≡ old into)
WidenEnd endorse auths into old new (Widened n) =
    (e : EndorsementData) × (xs : List AuthData) × WidenInputs endorse auths old e xs × (n ≡ length xs) × Written (widen_of e xs) (old into) (new into)
WidenEnd endorse auths into old new end = ⊥

-- what a fault of the files leaves: the file as it was, or a front of what is written
abbrev pub WidenLeaves : List ℕ → List ℕ → List ℕ → FileMap → FileMap → Type 0
WidenLeaves endorse auths into old new =
    (new into ≡ old into) ⊎ ((e : EndorsementData) × (xs : List AuthData) × WidenInputs endorse auths old e xs × LeavesFront (widen_of e xs) (old into) (new into))

abbrev pub WidenReaches : List ℕ → List ℕ → List ℕ → FileMap → FileMap → ℕ → ℕ → Outcome → Type 0
WidenReaches endorse auths into old new before now (Ended end) = WidenEnd endorse auths into old new end × (now ≡ before)
WidenReaches endorse auths into old new before now NoMemory = SameFiles old new × (now ≡ before)
WidenReaches endorse auths into old new before now FaultFiles = WidenLeaves endorse auths into old new × Rises before now
WidenReaches endorse auths into old new before now FaultDisk = ⊥

-- the outcome with its line and its status
abbrev pub WidenEnds : List ℕ → List ℕ → List ℕ → FileMap → FileMap → ℕ → ℕ → ℕ → ℕ → Option (List ℕ) → Option (List ℕ) → ℕ → Type 0
WidenEnds endorse auths into old new files_before files_now before now was is result =
    (o : Outcome) × WidenReaches endorse auths into old new files_before files_now o × Printed (line (text_of_outcome o) ∷ []) (status_of_outcome o) before now was is result

-- It ends with 0 exactly where both files are what they have to be, but for a fault of the outside and want of memory; and then
-- exactly the authenticators with the endorsement's parts are written.
pub record WidenMeans (endorse auths into : List ℕ) (old new : FileMap) (result : ℕ) : Type 0 where
  pub done : result ≡ 0 → (e : EndorsementData) × (xs : List AuthData) × WidenInputs endorse auths old e xs × Written (widen_of e xs) (old into) (new into)
  pub does : (e : EndorsementData) (xs : List AuthData) → IsTold endorsement_of (old endorse) e → IsTold auths_within (old auths) xs → result ≢ 4 → result ≢ 5 → result ≡ 0
