-- The events as the code has them.
use Rattle.std.specs.Prelude.{option_map}
use Rattle.world_model.specs.Deeds.{Deed, Turn, Deliver, Console, Resend, Seal, CrashData, EventData}
use Rattle.world_model.specs.declared.event.Act.{Act}
use Rattle.world_model.specs.declared.event.Act.TheVariants as act
use Rattle.world_model.specs.declared.event.Crash.{Crash}
use Rattle.world_model.specs.declared.event.Event.{Event}

abbrev pub deed_view : Act → Deed
deed_view act.Turn = Turn
deed_view (act.Deliver number) = Deliver number
deed_view (act.Console bytes) = Console bytes.now
deed_view (act.Resend peer) = Resend peer
deed_view act.Seal = Seal

abbrev pub crash_view : Crash → CrashData
crash_view c = record { calls = c.calls; long = c.long; fill = c.fill }

abbrev pub event_view : Event → EventData
event_view e = record { node = e.node; deed = deed_view e.act; crash = option_map crash_view e.crash }
