use Rattle.record_command.proofs.Ending.{means}
use Rattle.record_command.proofs.command.record.Goals as goal

pub returns-clause-means : goal.returns-clause-means
returns-clause-means g c = means _ _ _ _ _ _ _ _ _ _ _ c.record_all.ensures.ends
