-- How recording comes to its lines.
use Rattle.std.specs.Prelude.{◌≡◌, ◌⊎◌, ◌++◌, ℕ, List, [], ◌∷◌, Option, codes, Result, Ok, Err}
use Rattle.avm_model.specs.Keys.{KeyData}
use Rattle.avm_outside.specs.Outside.{Rises}
use Rattle.avm_script.specs.Script.{ScriptData}
use Rattle.command_parts.specs.FileMap.{FileMap}
use Rattle.command_parts.specs.Printing.{line, Printed, PrintsCut}
use Rattle.command_parts.specs.declared.fault.Fault.{Fault}
use Rattle.command_parts.specs.declared.fault.Fault.TheVariants as fault
use Rattle.file_outlet.specs.RunFiles.{Held}
use Rattle.format_command.specs.Outcomes.{Counted}
use Rattle.record_model.specs.Recorded.{Drop}
use Rattle.record_run.specs.Lines.{drop_lines}
use Rattle.record_command.specs.Ends.{status_of, text_of}
use Rattle.record_command.specs.Inputs.{InputNames, Found, AreFound, RefusesFile, Tells}
use Rattle.record_command.specs.Runs.{Leaves, held_of}
use Rattle.record_command.specs.declared.ends.End.{End}
use Rattle.record_command.specs.declared.ends.End.TheVariants.{RefusedFile}

-- a print that failed has no last line
pub data Outcome : Type 0 where
  Ended : End → Outcome
  NoMemory : Outcome
  FaultFiles : Outcome
  FaultDisk : Outcome
  FaultSink : Outcome

abbrev pub status_of_outcome : Outcome → ℕ
status_of_outcome (Ended end) = status_of end
status_of_outcome NoMemory = 5
status_of_outcome FaultFiles = 4
status_of_outcome FaultDisk = 4
status_of_outcome FaultSink = 4

-- the line behind those of the dropped events
abbrev pub last_lines : Outcome → List (List ℕ)
last_lines (Ended end) = line (text_of end) ∷ []
last_lines NoMemory = line (codes "no memory") ∷ []
last_lines FaultFiles = line (codes "fault files") ∷ []
last_lines FaultDisk = line (codes "fault disk") ∷ []
last_lines FaultSink = []

-- the names of the files of a recording
pub record Names : Type 0 where
  pub key : List ℕ
  pub script : List ℕ
  pub packets : List ℕ
  pub console : List ℕ
  pub auths : List ℕ

-- those that are read
abbrev pub inputs : Names → InputNames
inputs names = record { key = names.key; script = names.script }

-- those that are appended to, among all files
abbrev pub outputs : Names → FileMap → Held
outputs names files = held_of names.packets names.console names.auths files

-- the store isn't opened: no call is made on the disk, no file is changed, and no event is dropped
pub record Unopened (old new : Held) (quiet : Type 0) (drops : List Drop) : Type 0 where
  pub disk : quiet
  pub files : new ≡ old
  pub none : drops ≡ []

-- no file is refused, and recording with the private key and the script ends so
abbrev pub OnInputs : Found → Held → Held → Option (List ℕ) → Option (List ℕ) → (List ℕ → Type 0) → List Drop → Result End Fault → Type 0
OnInputs f old new was now images drops r = (k : KeyData) × (s : ScriptData) × Tells f k s × Leaves k s old new was now images drops r

-- Which outcome recording may come to, by the files that are found and the disk before and after it. The disk is called only once no
-- file is refused: `quiet` is that it wasn't. The files are those that are appended to, before and after it.
abbrev pub Reaches : Outcome → Found → Held → Held → Option (List ℕ) → Option (List ℕ) → (List ℕ → Type 0) → Type 0 → List Drop → Type 0
Reaches (Ended (RefusedFile option)) f old new was now images quiet drops = RefusesFile f option × Unopened old new quiet drops
Reaches (Ended end) f old new was now images quiet drops = OnInputs f old new was now images drops (Ok end)
Reaches NoMemory f old new was now images quiet drops = Unopened old new quiet drops ⊎ OnInputs f old new was now images drops (Err fault.NoMemory)
Reaches FaultFiles f old new was now images quiet drops = Unopened old new quiet drops ⊎ OnInputs f old new was now images drops (Err fault.Files)
Reaches FaultDisk f old new was now images quiet drops = OnInputs f old new was now images drops (Err fault.Disk)
Reaches FaultSink f old new was now images quiet drops = OnInputs f old new was now images drops (Err fault.Sink)

-- the counts of faults of the files and of the disk
abbrev pub CountsFaults : Outcome → ℕ → ℕ → ℕ → ℕ → Type 0
CountsFaults FaultFiles files_before files_now disk_before disk_now = Rises files_before files_now × (disk_now ≡ disk_before)
CountsFaults FaultDisk files_before files_now disk_before disk_now = (files_now ≡ files_before) × Rises disk_before disk_now
CountsFaults o files_before files_now disk_before disk_now = (files_now ≡ files_before) × (disk_now ≡ disk_before)

-- the lines of the dropped events and the last line; where a print of the former failed, a front of them
abbrev pub Says : Outcome → List Drop → ℕ → ℕ → Option (List ℕ) → Option (List ℕ) → ℕ → Type 0
Says FaultSink drops before now old new result = (result ≡ 4) × PrintsCut (drop_lines drops) before now old new
Says o drops before now old new result = Printed (drop_lines drops ++ last_lines o) (status_of_outcome o) before now old new result

-- the outcome that files and disk give, with its lines and its status
abbrev pub RecordEnds : Names → FileMap → FileMap → Option (List ℕ) → Option (List ℕ) → (List ℕ → Type 0) → Type 0 → Counted → Option (List ℕ) → Option (List ℕ) → ℕ → Type 0
RecordEnds names old new was now images quiet n before after result =
    (o : Outcome) × (f : Found) × (drops : List Drop) × AreFound (inputs names) old f × Reaches o f (outputs names old) (outputs names new) was now images quiet drops
    × CountsFaults o n.files_before n.files_now n.disk_before n.disk_now × Says o drops n.out_before n.out_now before after result

-- the outcome of an end, or of a fault but one of a print
abbrev pub IsOutcome : Result End Fault → Outcome → Type 0
IsOutcome (Ok end) (Ended e) = e ≡ end
IsOutcome (Err fault.NoMemory) NoMemory = Unit {0}
IsOutcome (Err fault.Files) FaultFiles = Unit {0}
IsOutcome (Err fault.Disk) FaultDisk = Unit {0}
IsOutcome r o = ⊥
