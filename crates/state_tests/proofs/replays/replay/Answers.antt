use Rattle.std.proofs.Common.{ap}
use Rattle.replayer.specs.Pending.{ram_of}
use Rattle.replayer.proofs.Built.{built}
use Rattle.state_tests.proofs.replays.replay.Goals as goal

pub new-requires-4 : goal.new-requires-4
new-requires-4 c =
    record { stale = built c.loop-word.ram c.build.new.ram c.new-3.result c.in-Ok-build.tree c.in-Ok-build.ensures.tree c.in-Ok-build.ensures.ram (ap ram_of c.new-3.ensures) }
