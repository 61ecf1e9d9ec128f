use Rattle.replayer.proofs.Kept.{ram_after, count_after}
use Rattle.replayer.proofs.taking.take_at.Goals as goal

pub returns-clause-ram : goal.returns-clause-ram
returns-clause-ram c = ram_after _ _ _ _ c.take_any.ensures.ok c.take_any.ensures.err

pub returns-clause-count : goal.returns-clause-count
returns-clause-count c = count_after _ _ _ _ c.take_any.ensures.ok c.take_any.ensures.err
