use Rattle.std.proofs.Common.{ap}
use Rattle.format_command.proofs.Meanings.{means}
use Rattle.format_command.proofs.command.format.Goals as goal

pub returns-clause-means : goal.returns-clause-means
returns-clause-means g c = means _ _ _ _ _ _ _ _ _ c.format_all.result (λ q. ap g.D.Disk.seen q) c.format_all.ensures.ends
