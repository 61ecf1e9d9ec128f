-- How a command comes to its line.
use Rattle.std.specs.Prelude.{◌≡◌, ℕ, List, codes, Result, Ok, Err}
use Rattle.command_parts.specs.declared.fault.Fault.{Fault}
use Rattle.command_parts.specs.declared.fault.Fault.TheVariants as fault
use Rattle.hss_command.specs.Ends.{status_of, text_of}
use Rattle.hss_command.specs.declared.ends.End.{End}
use Rattle.hss_command.specs.declared.said.Said.{Said}

pub data Outcome : Type 0 where
  Ended : End → Outcome
  NoMemory : Outcome
  FaultFiles : Outcome
  FaultDisk : Outcome

abbrev pub status_of_outcome : Outcome → ℕ
status_of_outcome (Ended end) = status_of end
status_of_outcome NoMemory = 5
status_of_outcome FaultFiles = 4
status_of_outcome FaultDisk = 4

abbrev pub text_of_outcome : Outcome → List ℕ
text_of_outcome (Ended end) = text_of end
text_of_outcome NoMemory = codes "no memory"
text_of_outcome FaultFiles = codes "fault files"
text_of_outcome FaultDisk = codes "fault disk"

-- the outcome of an end, or of a fault but one of a print
abbrev pub IsOutcome : Result Said Fault → Outcome → Type 0
IsOutcome (Ok s) (Ended e) = e ≡ s.end
IsOutcome (Err fault.NoMemory) NoMemory = Unit {0}
IsOutcome (Err fault.Files) FaultFiles = Unit {0}
IsOutcome (Err fault.Disk) FaultDisk = Unit {0}
IsOutcome r o = ⊥
