use Rattle.rebut_command.proofs.Meanings.{means, only_four, not_four}
use Rattle.rebut_command.proofs.command.rebut.Goals as goal

pub returns-clause-means : goal.returns-clause-means
returns-clause-means g c = means _ _ _ _ _ _ _ c.answered.result c.answered.ensures.ends

pub returns-clause-four : goal.returns-clause-four
returns-clause-four g c = only_four _ _ _ _ _ _ _ c.answered.result c.answered.ensures.ends

pub returns-clause-not_four : goal.returns-clause-not_four
returns-clause-not_four g c = not_four _ _ _ _ _ _ _ c.answered.result c.answered.ensures.ends
