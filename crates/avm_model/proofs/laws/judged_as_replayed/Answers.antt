use Rattle.avm_model.proofs.ReplayTheorems.{Stands-judged, judged-Stands}
use Rattle.avm_model.proofs.laws.judged_as_replayed.Goals as goal

pub returns-clause-well : goal.returns-clause-well
returns-clause-well g c m law s es j h = Stands-judged m law s es j h

pub returns-clause-all : goal.returns-clause-all
returns-clause-all g c m law s es j h = judged-Stands m law s es j h
