-- Lines as the reader sees them.
use Rattle.std.specs.Prelude.{◌^◌, ◌<◌, length}
use Rattle.avm_outside.specs.Bounds.{IsEvent}
use Rattle.avm_outside.specs.Events.{event_of}
use Rattle.avm_script.specs.Script.{Line, passed, clock, event, end}
use Rattle.avm_script.specs.declared.line.Line.{Line as Read}
use Rattle.avm_script.specs.declared.line.Line.TheVariants.{Passed, Clock, At, End}

abbrev pub line_view : Read → Line
line_view Passed = passed
line_view (Clock v) = clock v
line_view (At count due bytes) = event count (event_of due bytes.items)
line_view (End count) = end count

-- an event's count and bytes are within their bounds, and so is the count of the end
abbrev pub Fits : Read → Type 0
Fits Passed = Unit {0}
Fits (Clock v) = Unit {0}
Fits (At count due bytes) = (count < 2 ^ 62) × IsEvent due (length bytes.items)
Fits (End count) = count < 2 ^ 62
