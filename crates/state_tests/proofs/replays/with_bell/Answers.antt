use Rattle.std.proofs.Common.{ap}
use Rattle.replayer.specs.Pending.{ram_of}
use Rattle.replayer.proofs.Built.{built}
use Rattle.state_tests.proofs.replays.with_bell.Goals as goal

pub new-requires-3 : goal.new-requires-3
new-requires-3 c =
    record { stale = built c.loop-word.ram c.build.new.ram c.new-2.result c.in-Ok-build.tree c.in-Ok-build.ensures.tree c.in-Ok-build.ensures.ram (ap ram_of c.new-2.ensures) }
