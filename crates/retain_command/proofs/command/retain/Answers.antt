use Rattle.retain_command.proofs.Ending.{means, not_four, only_four}
use Rattle.retain_command.proofs.command.retain.Goals as goal

pub returns-clause-means : goal.returns-clause-means
returns-clause-means g c = means _ _ _ _ _ _ _ c.retain_store.result c.retain_store.ensures.ends

pub returns-clause-four : goal.returns-clause-four
returns-clause-four g c = only_four _ _ _ _ _ _ _ c.retain_store.result c.retain_store.ensures.ends

pub returns-clause-not_four : goal.returns-clause-not_four
returns-clause-not_four g c = not_four _ _ _ _ _ _ _ c.retain_store.result c.retain_store.ensures.ends
