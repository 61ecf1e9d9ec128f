-- How the command comes to its lines.
use Rattle.std.specs.Prelude.{◌≡◌, ℕ, List, [], ◌∷◌, Option, codes, Result, Ok, Err}
use Rattle.avm_model.specs.Evidence.{EvidData}
use Rattle.avm_outside.specs.Outside.{Rises}
use Rattle.command_parts.specs.Printing.{line, Printed}
use Rattle.command_parts.specs.Reading.{Finds}
use Rattle.command_parts.specs.declared.fault.Fault.{Fault}
use Rattle.command_parts.specs.declared.fault.Fault.TheVariants as fault
use Rattle.rebut_command.specs.Judging.{JudgedData, refused, answered, judged_view, BytesEnd, FileEnd}
use Rattle.rebut_command.specs.Lines.{status_of, text_of, answer_lines}
use Rattle.rebut_command.specs.declared.judging.Judged.{Judged}

pub data Outcome : Type 0 where
  Ended : JudgedData → Outcome
  NoMemory : Outcome
  FaultFiles : Outcome
  FaultDisk : Outcome

abbrev pub judged_status : JudgedData → ℕ
judged_status (refused r) = status_of r
judged_status (answered a) = 0

abbrev pub judged_lines : JudgedData → List (List ℕ)
judged_lines (refused r) = line (text_of r) ∷ []
judged_lines (answered a) = answer_lines a

abbrev pub status_of_outcome : Outcome → ℕ
status_of_outcome (Ended d) = judged_status d
status_of_outcome NoMemory = 5
status_of_outcome FaultFiles = 4
status_of_outcome FaultDisk = 4

abbrev pub lines_of : Outcome → List (List ℕ)
lines_of (Ended d) = judged_lines d
lines_of NoMemory = line (codes "no memory") ∷ []
lines_of FaultFiles = line (codes "fault files") ∷ []
lines_of FaultDisk = line (codes "fault disk") ∷ []

-- which outcome the command may come to, by the evidence's file that is found and the store
abbrev pub Reaches : Option (List ℕ) → Option (List ℕ) → Outcome → Type 0
Reaches found disk (Ended d) = FileEnd found disk d
Reaches found disk o = Unit {0}

-- which outcome it may come to by the evidence that its bytes are
abbrev pub BytesReach : Option EvidData → Option (List ℕ) → Outcome → Type 0
BytesReach evidence disk (Ended d) = BytesEnd evidence disk d
BytesReach evidence disk NoMemory = Unit {0}
BytesReach evidence disk FaultFiles = ⊥
BytesReach evidence disk FaultDisk = Unit {0}

-- the counts of faults
abbrev pub CountsFiles : Outcome → ℕ → ℕ → Type 0
CountsFiles FaultFiles before now = Rises before now
CountsFiles o before now = now ≡ before

abbrev pub CountsDisk : Outcome → ℕ → ℕ → Type 0
CountsDisk FaultDisk before now = Rises before now
CountsDisk o before now = now ≡ before

-- the counts of faults of one object, before and behind
pub record Counted : Type 0 where
  pub before : ℕ
  pub now : ℕ

abbrev pub counted : ℕ → ℕ → Counted
counted before now = record { before = before; now = now }

-- the outcome that the evidence's file and the store give, with its lines and its status
pub record RebutEnds (told : Option (Option (List ℕ))) (store : Option (List ℕ)) (files disk sink : Counted) (old new : Option (List ℕ)) (result : ℕ) : Type 0 where
  pub outcome : Outcome
  pub found : Option (List ℕ)
  pub finds : Finds told found
  pub reaches : Reaches found store outcome
  pub counts_files : CountsFiles outcome files.before files.now
  pub counts_disk : CountsDisk outcome disk.before disk.now
  pub printed : Printed (lines_of outcome) (status_of_outcome outcome) sink.before sink.now old new result

-- the outcome of what was judged, or of a fault but one of a print
abbrev pub IsOutcome : Result Judged Fault → Outcome → Type 0
IsOutcome (Ok r) (Ended d) = d ≡ judged_view r
IsOutcome (Ok r) NoMemory = Unit {0}
IsOutcome (Err fault.NoMemory) NoMemory = Unit {0}
IsOutcome (Err fault.Files) FaultFiles = Unit {0}
IsOutcome (Err fault.Disk) FaultDisk = Unit {0}
IsOutcome r o = ⊥
