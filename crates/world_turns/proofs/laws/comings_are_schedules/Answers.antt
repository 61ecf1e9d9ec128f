use Rattle.std.proofs.Common.{refl}
use Rattle.world_turns.proofs.Schedules.{come_schedule}
use Rattle.world_turns.proofs.laws.comings_are_schedules.Goals as goal

pub returns : goal.returns
returns c n k s t pieces is comes = come_schedule n k s s.recording t pieces is refl comes
