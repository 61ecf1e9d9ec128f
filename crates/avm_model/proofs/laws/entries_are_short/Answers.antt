use Rattle.avm_model.proofs.ReplayLaws.{settle_within}
use Rattle.avm_model.proofs.laws.entries_are_short.Goals as goal

pub returns : goal.returns
returns g c m law k keeps loud n s os pos = settle_within m law k keeps loud n s os pos
