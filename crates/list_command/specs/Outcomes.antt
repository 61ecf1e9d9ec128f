-- How a listing comes to its lines.
use Rattle.std.specs.Prelude.{◌≡◌, ◌++◌, ℕ, List, [], ◌∷◌, Option, codes, IfSome, Result, Ok, Err}
use Rattle.avm_outside.specs.Outside.{Rises}
use Rattle.command_parts.specs.Printing.{line, Printed}
use Rattle.command_parts.specs.declared.fault.Fault.{Fault}
use Rattle.command_parts.specs.declared.fault.Fault.TheVariants as fault
use Rattle.list_command.specs.Ends.{status_of, end_lines}
use Rattle.list_command.specs.Listing.{IsListing, BeginsListing, Refuses}
use Rattle.list_command.specs.declared.ends.End.{End}
use Rattle.list_command.specs.declared.ends.End.TheVariants.{Listed}

pub data Outcome : Type 0 where
  Ended : End → Outcome
  NoMemory : Outcome
  FaultDisk : Outcome

abbrev pub status_of_outcome : Outcome → ℕ
status_of_outcome (Ended end) = status_of end
status_of_outcome NoMemory = 5
status_of_outcome FaultDisk = 4

-- the lines behind those of the journal
abbrev pub last_lines : Outcome → List (List ℕ)
last_lines (Ended end) = end_lines end
last_lines NoMemory = line (codes "no memory") ∷ []
last_lines FaultDisk = line (codes "fault disk") ∷ []

-- which outcome a listing may come to, and the lines that it says before, by the bytes of the store. Where memory is wanted or a
-- call fails, they are the first of the journal's.
abbrev pub Reaches : List ℕ → Outcome → List (List ℕ) → Type 0
Reaches was (Ended Listed) said = IsListing was said
Reaches was (Ended end) said = Refuses was end × (said ≡ [])
Reaches was NoMemory said = BeginsListing was said
Reaches was FaultDisk said = BeginsListing was said

-- the count of faults of the disk
abbrev pub CountsFaults : Outcome → ℕ → ℕ → Type 0
CountsFaults FaultDisk before now = Rises before now
CountsFaults o before now = now ≡ before

-- the outcome that the store gives, where it tells its bytes, with its lines and its status
abbrev pub ListEnds : Option (List ℕ) → ℕ → ℕ → ℕ → ℕ → Option (List ℕ) → Option (List ℕ) → ℕ → Type 0
ListEnds told disk_before disk_now before now old new result =
    (o : Outcome) × (said : List (List ℕ)) × IfSome told (λ was. Reaches was o said) × CountsFaults o disk_before disk_now
    × Printed (said ++ last_lines o) (status_of_outcome o) before now old new result

-- the outcome of an end, or of a fault but one of a print
abbrev pub IsOutcome : Result End Fault → Outcome → Type 0
IsOutcome (Ok end) (Ended e) = e ≡ end
IsOutcome (Ok Listed) NoMemory = ⊥
IsOutcome (Ok end) NoMemory = Unit {0}
IsOutcome (Err fault.NoMemory) NoMemory = Unit {0}
IsOutcome (Err fault.Disk) FaultDisk = Unit {0}
IsOutcome r o = ⊥
