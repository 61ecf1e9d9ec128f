-- How a command comes to its line.
use Rattle.std.specs.Prelude.{◌≡◌, ℕ, List, [], ◌∷◌, Option, codes}
use Rattle.avm_script.specs.Job.{SignedData}
use Rattle.avm_outside.specs.Outside.{Rises}
use Rattle.command_parts.specs.FileMap.{FileMap, SameFiles}
use Rattle.command_parts.specs.Printing.{line, Printed}
use Rattle.audit_command.specs.Audit.{AuditEnds, AuditLeaves}
use Rattle.audit_command.specs.Check.{CheckEnds}
use Rattle.audit_command.specs.declared.ends.End.{End}
use Rattle.audit_command.specs.Ends.{status_of, text_of}

pub data Outcome : Type 0 where
  Ended : End → Outcome
  NoMemory : Outcome
  FaultFiles : Outcome

-- which outcome a command may come to, by its ends, by what a fault leaves, and by the files' counts of faults; memory is wanted
-- only before a file is changed
abbrev pub Reaches : (End → Type 0) → Type 0 → Type 0 → Outcome → ℕ → ℕ → Type 0
Reaches Ends Leaves Same (Ended end) before now = Ends end × (now ≡ before)
Reaches Ends Leaves Same NoMemory before now = Same × (now ≡ before)
Reaches Ends Leaves Same FaultFiles before now = Leaves × Rises before now

abbrev pub status_of_outcome : Outcome → ℕ
status_of_outcome (Ended end) = status_of end
status_of_outcome NoMemory = 5
status_of_outcome FaultFiles = 4

abbrev pub text_of_outcome : Outcome → List ℕ
text_of_outcome (Ended end) = text_of end
text_of_outcome NoMemory = codes "no memory"
text_of_outcome FaultFiles = codes "fault files"

-- an outcome that it may come to, with its line and its status
abbrev pub EndsBy : (End → Type 0) → Type 0 → Type 0 → ℕ → ℕ → ℕ → ℕ → Option (List ℕ) → Option (List ℕ) → ℕ → Type 0
EndsBy Ends Leaves Same files_before files_now before now old new result =
    (o : Outcome) × Reaches Ends Leaves Same o files_before files_now × Printed (line (text_of_outcome o) ∷ []) (status_of_outcome o) before now old new result

-- a run of an audit, by the files before and after it and what it prints
abbrev pub AuditRuns : List ℕ → Option (List ℕ) → Option SignedData → FileMap → FileMap → ℕ → ℕ → ℕ → ℕ → Option (List ℕ) → Option (List ℕ) → ℕ → Type 0
AuditRuns segment image signed before after = EndsBy (AuditEnds segment image signed before after) (AuditLeaves segment image signed before after) (SameFiles before after)

-- a run of a check
abbrev pub CheckRuns : List ℕ → List ℕ → FileMap → FileMap → ℕ → ℕ → ℕ → ℕ → Option (List ℕ) → Option (List ℕ) → ℕ → Type 0
CheckRuns key evidence before after = EndsBy (CheckEnds key evidence before) (SameFiles before after) (SameFiles before after)
