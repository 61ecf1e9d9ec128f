use Rattle.avm_model.proofs.ReplayTheorems.{front_replays}
use Rattle.avm_model.proofs.laws.fronts_replay.Goals as goal

pub returns : goal.returns
returns g c m law s a b h = front_replays m law s a b h
