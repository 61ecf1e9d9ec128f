-- What was read of a schedule so far.
use Rattle.std.specs.Prelude.{Bool, true, List, [], ◌∷◌, ◌++◌, Option, Some, None, option_map, if◌then◌else◌}
use Rattle.world_model.specs.Deeds.{ScheduleData}
use Rattle.world_schedule.specs.Schedule.{Line, passed, node, event, schedule_of, events_of}

-- the schedule so far, and whether an event was read
pub record Sofar : Type 0 where
  pub schedule : ScheduleData
  pub begun : Bool

-- with one more line, where it may come here
abbrev pub step : Sofar → Line → Option Sofar
step s passed = Some s
step s (node n) = if s.begun then None else Some (record s { schedule = record (s.schedule) { nodes = s.schedule.nodes ++ n ∷ [] } })
step s (event e) = Some (record { schedule = record (s.schedule) { events = s.schedule.events ++ e ∷ [] }; begun = true })

-- what follows, joined to what was read
abbrev pub joined : ScheduleData → ScheduleData → ScheduleData
joined a b = record { nodes = a.nodes ++ b.nodes; events = a.events ++ b.events }

-- the schedule of what was read and of the lines behind it
abbrev pub whole : Sofar → List Line → Option ScheduleData
whole s lines = if s.begun then option_map (λ es. record (s.schedule) { events = s.schedule.events ++ es }) (events_of lines) else option_map (joined s.schedule) (schedule_of lines)
