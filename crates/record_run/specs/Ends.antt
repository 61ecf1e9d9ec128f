-- How a run ends, on any disk: which counts of faults rose, which lines were printed, and why the recorder has stopped.
use Rattle.std.specs.Prelude.{◌≡◌, ℕ, List, length, Option, None, Some, Result, Ok, Err}
use Rattle.avm_outside.specs.Outside.{Rises}
use Rattle.command_parts.specs.Printing.{Prints, PrintsCut}
use Rattle.jrnl_store.specs.declared.fault.Stop.{Stop}
use Rattle.jrnl_store.specs.declared.fault.Stop.TheVariants as stop
use Rattle.record_model.specs.Recorded.{Drop}
use Rattle.record_run.specs.Lines.{drop_lines}
use Rattle.record_run.specs.declared.stops.RunStop.{RunStop}
use Rattle.record_run.specs.declared.stops.RunStop.TheVariants.{LeavesSpent, Full, DiskFault, OutletFault, SinkFault}

-- the count of an object's faults rises where this object's failure ended the run, and else stays
abbrev pub DiskEnds : {T : Type 0} → Result T RunStop → ℕ → ℕ → Type 0
DiskEnds (Ok x) before now = now ≡ before
DiskEnds (Err LeavesSpent) before now = now ≡ before
DiskEnds (Err Full) before now = now ≡ before
DiskEnds (Err DiskFault) before now = Rises before now
DiskEnds (Err OutletFault) before now = now ≡ before
DiskEnds (Err SinkFault) before now = now ≡ before

abbrev pub OutletEnds : {T : Type 0} → Result T RunStop → ℕ → ℕ → Type 0
OutletEnds (Ok x) before now = now ≡ before
OutletEnds (Err LeavesSpent) before now = now ≡ before
OutletEnds (Err Full) before now = now ≡ before
OutletEnds (Err DiskFault) before now = now ≡ before
OutletEnds (Err OutletFault) before now = Rises before now
OutletEnds (Err SinkFault) before now = now ≡ before

-- the lines of the events that were dropped are printed whole; or, where a print failed, a front of them
abbrev pub Says : List Drop → Result ℕ RunStop → ℕ → ℕ → Option (List ℕ) → Option (List ℕ) → Type 0
Says drops (Ok n) before now old new = (n ≡ length drops) × Prints (drop_lines drops) before now old new
Says drops (Err LeavesSpent) before now old new = Prints (drop_lines drops) before now old new
Says drops (Err Full) before now old new = Prints (drop_lines drops) before now old new
Says drops (Err DiskFault) before now old new = Prints (drop_lines drops) before now old new
Says drops (Err OutletFault) before now old new = Prints (drop_lines drops) before now old new
Says drops (Err SinkFault) before now old new = PrintsCut (drop_lines drops) before now old new

-- why the recorder has stopped behind a run
abbrev pub stop_for : {T : Type 0} → Result T RunStop → Option Stop
stop_for (Ok x) = None
stop_for (Err LeavesSpent) = Some stop.LeavesSpent
stop_for (Err Full) = Some stop.Full
stop_for (Err DiskFault) = Some stop.DiskFault
stop_for (Err OutletFault) = Some stop.OutletFault
stop_for (Err SinkFault) = None

-- what holds where a batch that can't be saved ended the run
abbrev pub WhereCut : {T : Type 0} → Result T RunStop → Type 0 → Type 0
WhereCut (Ok x) P = Unit {0}
WhereCut (Err LeavesSpent) P = P
WhereCut (Err Full) P = P
WhereCut (Err DiskFault) P = Unit {0}
WhereCut (Err OutletFault) P = Unit {0}
WhereCut (Err SinkFault) P = Unit {0}
