use Rattle.journal_model.proofs.Signing.{items_leaves, items_apart, items_more}
use Rattle.journal_model.proofs.laws.leaves_differ.Goals as goal

pub returns-clause-run_on : goal.returns-clause-run_on
returns-clause-run_on c j = items_leaves j

pub returns-clause-apart : goal.returns-clause-apart
returns-clause-apart c j i k a b at_i at_k e = items_apart j i k a b at_i at_k e

pub returns-clause-more : goal.returns-clause-more
returns-clause-more c j ps = items_more j ps
