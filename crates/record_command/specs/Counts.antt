-- Which counts of faults rise by how recording ends, and which lines are printed before the last.
use Rattle.std.specs.Prelude.{◌≡◌, ℕ, List, Option, Result, Ok, Err}
use Rattle.avm_outside.specs.Outside.{Rises}
use Rattle.command_parts.specs.Printing.{Prints, PrintsCut}
use Rattle.command_parts.specs.declared.fault.Fault.{Fault}
use Rattle.command_parts.specs.declared.fault.Fault.TheVariants as fault
use Rattle.record_model.specs.Recorded.{Drop}
use Rattle.record_run.specs.Lines.{drop_lines}
use Rattle.record_run.specs.declared.stops.RunStop.{RunStop}
use Rattle.record_run.specs.declared.stops.RunStop.TheVariants.{LeavesSpent, Full, DiskFault, OutletFault, SinkFault}
use Rattle.record_command.specs.declared.ends.End.{End}
use Rattle.record_command.specs.declared.ends.End.TheVariants.{RefusedLeaves, RefusedFull}

-- how a run that was stopped ends
abbrev pub end_by : RunStop → Result End Fault
end_by LeavesSpent = Ok RefusedLeaves
end_by Full = Ok RefusedFull
end_by DiskFault = Err fault.Disk
end_by OutletFault = Err fault.Files
end_by SinkFault = Err fault.Sink

-- the count of the files' faults rises where a call on them failed, and else stays
abbrev pub FileCounts : {T : Type 0} → ℕ → ℕ → Result T Fault → Type 0
FileCounts before now (Ok t) = now ≡ before
FileCounts before now (Err fault.NoMemory) = now ≡ before
FileCounts before now (Err fault.Files) = Rises before now
FileCounts before now (Err fault.Disk) = now ≡ before
FileCounts before now (Err fault.Sink) = now ≡ before

-- and that of the disk's
abbrev pub DiskCounts : {T : Type 0} → ℕ → ℕ → Result T Fault → Type 0
DiskCounts before now (Ok t) = now ≡ before
DiskCounts before now (Err fault.NoMemory) = now ≡ before
DiskCounts before now (Err fault.Files) = now ≡ before
DiskCounts before now (Err fault.Disk) = Rises before now
DiskCounts before now (Err fault.Sink) = now ≡ before

-- a line for each event that was dropped; or, where a print failed, a front of them
abbrev pub SaysBy : {T : Type 0} → List Drop → Result T Fault → ℕ → ℕ → Option (List ℕ) → Option (List ℕ) → Type 0
SaysBy drops (Ok t) before now old new = Prints (drop_lines drops) before now old new
SaysBy drops (Err fault.NoMemory) before now old new = Prints (drop_lines drops) before now old new
SaysBy drops (Err fault.Files) before now old new = Prints (drop_lines drops) before now old new
SaysBy drops (Err fault.Disk) before now old new = Prints (drop_lines drops) before now old new
SaysBy drops (Err fault.Sink) before now old new = PrintsCut (drop_lines drops) before now old new
