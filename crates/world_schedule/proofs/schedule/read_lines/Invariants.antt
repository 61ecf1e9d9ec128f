use Rattle.std.proofs.Common.{◌≡◌, length}
use Rattle.world_schedule.specs.Readings.{sofar}
use Rattle.world_schedule.specs.Schedule.{lines_at}
use Rattle.world_schedule.proofs.Joining.{rest_of}
use Rattle.world_schedule.proofs.schedule.read_lines.Given as goal

abbrev pub invariant-loop-text : goal.invariant-loop-text
invariant-loop-text l = rest_of (sofar l.reading) l.rest ≡ lines_at l.fn.bytes

abbrev pub decreases-loop-text : goal.decreases-loop-text
decreases-loop-text l = length l.rest
