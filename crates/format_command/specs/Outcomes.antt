-- How formatting comes to its line.
use Rattle.std.specs.Prelude.{◌≡◌, ℕ, List, [], ◌∷◌, Option, codes, Result, Ok, Err}
use Rattle.avm_model.specs.Keys.{KeyData}
use Rattle.avm_model.specs.Machine.{State}
use Rattle.avm_outside.specs.Outside.{Rises}
use Rattle.command_parts.specs.FileMap.{FileMap}
use Rattle.command_parts.specs.Printing.{line, Printed}
use Rattle.command_parts.specs.declared.fault.Fault.{Fault}
use Rattle.command_parts.specs.declared.fault.Fault.TheVariants as fault
use Rattle.format_command.specs.Ends.{status_of, text_of}
use Rattle.format_command.specs.First.{Makes, first_journal}
use Rattle.format_command.specs.Inputs.{Names, Found, AreFound, RefusesFile, Tells}
use Rattle.format_command.specs.declared.ends.End.{End}
use Rattle.format_command.specs.declared.ends.End.TheVariants.{RefusedFile}

pub data Outcome : Type 0 where
  Ended : End → Outcome
  NoMemory : Outcome
  FaultFiles : Outcome
  FaultDisk : Outcome

abbrev pub status_of_outcome : Outcome → ℕ
status_of_outcome (Ended end) = status_of end
status_of_outcome NoMemory = 5
status_of_outcome FaultFiles = 4
status_of_outcome FaultDisk = 4

abbrev pub text_of_outcome : Outcome → List ℕ
text_of_outcome (Ended end) = text_of end
text_of_outcome NoMemory = codes "no memory"
text_of_outcome FaultFiles = codes "fault files"
text_of_outcome FaultDisk = codes "fault disk"

-- Which outcome formatting may come to, by the files that are found and the disk before and after it. The disk is called only
-- once no file is refused: `quiet` is that it wasn't.
abbrev pub Reaches : Outcome → Found → Option (List ℕ) → Option (List ℕ) → (List ℕ → Type 0) → Type 0 → Type 0
Reaches (Ended (RefusedFile option)) f old new images quiet = RefusesFile f option × quiet
Reaches (Ended end) f old new images quiet = (k : KeyData) × (s : State) × Tells f k s × Makes (first_journal k s) old new images (Ok end)
Reaches NoMemory f old new images quiet = new ≡ old
Reaches FaultFiles f old new images quiet = quiet
Reaches FaultDisk f old new images quiet = (k : KeyData) × (s : State) × Tells f k s

-- the counts of faults of the files and of the disk
abbrev pub CountsFaults : Outcome → ℕ → ℕ → ℕ → ℕ → Type 0
CountsFaults FaultFiles files_before files_now disk_before disk_now = Rises files_before files_now × (disk_now ≡ disk_before)
CountsFaults FaultDisk files_before files_now disk_before disk_now = (files_now ≡ files_before) × Rises disk_before disk_now
CountsFaults o files_before files_now disk_before disk_now = (files_now ≡ files_before) × (disk_now ≡ disk_before)

-- what the counts and the output were before and are now
pub record Counted : Type 0 where
  pub files_before : ℕ
  pub files_now : ℕ
  pub disk_before : ℕ
  pub disk_now : ℕ
  pub out_before : ℕ
  pub out_now : ℕ

-- the outcome that files and disk give, with its line and its status
abbrev pub FormatEnds : Names → FileMap → Option (List ℕ) → Option (List ℕ) → (List ℕ → Type 0) → Type 0 → Counted → Option (List ℕ) → Option (List ℕ) → ℕ → Type 0
FormatEnds names files old new images quiet n before after result =
    (o : Outcome) × (f : Found) × AreFound names files f × Reaches o f old new images quiet × CountsFaults o n.files_before n.files_now n.disk_before n.disk_now
    × Printed (line (text_of_outcome o) ∷ []) (status_of_outcome o) n.out_before n.out_now before after result

-- the outcome of an end, or of a fault
abbrev pub IsOutcome : Result End Fault → Outcome → Type 0
IsOutcome (Ok end) (Ended e) = e ≡ end
IsOutcome (Err fault.NoMemory) NoMemory = Unit {0}
IsOutcome (Err fault.Files) FaultFiles = Unit {0}
IsOutcome (Err fault.Disk) FaultDisk = Unit {0}
IsOutcome r o = ⊥
