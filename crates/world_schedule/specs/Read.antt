-- What the reader has of a schedule.
use Rattle.std.specs.Prelude.{option_map}
use Rattle.world_model.specs.Deeds.{Deed, Turn, Deliver, Console, Resend, Seal, EventData, NodeData}
use Rattle.world_model.specs.EventView.{crash_view}
use Rattle.world_schedule.specs.Schedule.{Line, passed, node, event}
use Rattle.world_schedule.specs.declared.event_line.DeedLine.{DeedLine}
use Rattle.world_schedule.specs.declared.event_line.DeedLine.TheVariants as deed
use Rattle.world_schedule.specs.declared.event_line.EventLine.{EventLine}
use Rattle.world_schedule.specs.declared.line.Line.{Line as Read}
use Rattle.world_schedule.specs.declared.line.Line.TheVariants as line
use Rattle.world_schedule.specs.declared.node_line.NodeLine.{NodeLine}

abbrev pub deed_of : DeedLine → Deed
deed_of deed.Turn = Turn
deed_of (deed.Deliver number) = Deliver number
deed_of (deed.Console input) = Console input.bytes.items
deed_of (deed.Resend peer) = Resend peer
deed_of deed.Seal = Seal

abbrev pub event_in : EventLine → EventData
event_in e = record { node = e.node; deed = deed_of e.deed; crash = option_map crash_view e.crash }

abbrev pub node_in : NodeLine → NodeData
node_in n = record { seed = n.seed; image = n.image.items }

abbrev pub line_in : Read → Line
line_in line.Passed = passed
line_in (line.Node n) = node (node_in n)
line_in (line.Event e) = event (event_in e)
