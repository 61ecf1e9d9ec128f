use Rattle.list_command.proofs.Ending.{all_end}
use Rattle.list_command.proofs.command.list_all.Goals as goal

pub returns-clause-ends : goal.returns-clause-ends
returns-clause-ends g c = all_end _ c.list_store-ended.result _ _ _ _ _ _ _ _ c.finish.result c.list_store-ended.ensures.faults c.list_store-ended.ensures.leaves (record { line = c.finish.ensures.line; cut = c.finish.ensures.cut })
