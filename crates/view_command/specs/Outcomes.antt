-- How a view comes to its lines.
use Rattle.std.specs.Prelude.{◌≡◌, ◌⊎◌, ◌++◌, ℕ, List, [], ◌∷◌, Option, Some, None, codes, Result, Ok, Err}
use Rattle.avm_model.specs.Segment.{whole_segment_of}
use Rattle.avm_outside.specs.Outside.{Rises}
use Rattle.command_parts.specs.Printing.{line, Printed}
use Rattle.command_parts.specs.Reading.{Finds}
use Rattle.command_parts.specs.declared.fault.Fault.{Fault}
use Rattle.command_parts.specs.declared.fault.Fault.TheVariants as fault
use Rattle.view_command.specs.Ends.{status_of, end_lines}
use Rattle.view_command.specs.Showing.{Read, Refuses}
use Rattle.view_command.specs.declared.ends.End.{End}
use Rattle.view_command.specs.declared.ends.End.TheVariants.{Shown, RefusedFile}

pub data Outcome : Type 0 where
  Ended : End → Outcome
  NoMemory : Outcome
  FaultFiles : Outcome

abbrev pub status_of_outcome : Outcome → ℕ
status_of_outcome (Ended end) = status_of end
status_of_outcome NoMemory = 5
status_of_outcome FaultFiles = 4

-- the lines behind those of the view
abbrev pub last_lines : Outcome → List (List ℕ)
last_lines (Ended end) = end_lines end
last_lines NoMemory = line (codes "no memory") ∷ []
last_lines FaultFiles = line (codes "fault files") ∷ []

-- which outcome a view may come to, and the lines that it says before, by the file that is found. Where memory is wanted, they
-- are a front of what is shown.
abbrev pub Reaches : (Read → List (List ℕ) → Type 0) → (Read → Type 0) → Option (List ℕ) → Outcome → List (List ℕ) → Type 0
Reaches Shows OutOfRange found (Ended RefusedFile) said = (found ≡ None) × (said ≡ [])
Reaches Shows OutOfRange found (Ended Shown) said = (bytes : List ℕ) × (found ≡ Some bytes) × Shows (whole_segment_of bytes) said
Reaches Shows OutOfRange found (Ended end) said = (bytes : List ℕ) × (found ≡ Some bytes) × Refuses OutOfRange (whole_segment_of bytes) end × (said ≡ [])
Reaches Shows OutOfRange found NoMemory said =
    (said ≡ []) ⊎ ((bytes : List ℕ) × (rest : List (List ℕ)) × (found ≡ Some bytes) × Shows (whole_segment_of bytes) (said ++ rest))
Reaches Shows OutOfRange found FaultFiles said = said ≡ []

-- the count of faults of the files
abbrev pub CountsFiles : Outcome → ℕ → ℕ → Type 0
CountsFiles FaultFiles before now = Rises before now
CountsFiles o before now = now ≡ before

-- the outcome that the segment's file gives, with its lines and its status
abbrev pub ViewEnds : (Read → List (List ℕ) → Type 0) → (Read → Type 0) → Option (Option (List ℕ)) → ℕ → ℕ → ℕ → ℕ → Option (List ℕ) → Option (List ℕ) → ℕ → Type 0
ViewEnds Shows OutOfRange told files_before files_now before now old new result =
    (o : Outcome) × (said : List (List ℕ)) × (found : Option (List ℕ)) × Finds told found × Reaches Shows OutOfRange found o said × CountsFiles o files_before files_now
    × Printed (said ++ last_lines o) (status_of_outcome o) before now old new result

-- the outcome of an end, or of a fault but one of a print
abbrev pub IsOutcome : Result End Fault → Outcome → Type 0
IsOutcome (Ok end) (Ended e) = e ≡ end
IsOutcome (Ok Shown) NoMemory = ⊥
IsOutcome (Ok end) NoMemory = Unit {0}
IsOutcome (Err fault.NoMemory) NoMemory = Unit {0}
IsOutcome (Err fault.Files) FaultFiles = Unit {0}
IsOutcome r o = ⊥
