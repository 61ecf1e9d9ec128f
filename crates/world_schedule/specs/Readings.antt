-- What the reader has so far.
use Rattle.std.specs.Prelude.{map}
use Rattle.world_schedule.specs.Read.{event_in, node_in}
use Rattle.world_schedule.specs.Sofar.{Sofar}
use Rattle.world_schedule.specs.declared.schedule.Reading.{Reading}

abbrev pub sofar : Reading → Sofar
sofar r = record { schedule = record { nodes = map node_in r.nodes.items; events = map event_in r.events.items }; begun = r.begun }
