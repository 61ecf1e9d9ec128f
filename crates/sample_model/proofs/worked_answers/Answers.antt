use Rattle.std.proofs.Common.{refl}
use Rattle.avm_model.specs.Packet.{data_at, packet_at}
use Rattle.sample_model.proofs.worked_answers.Goals as goal

pub returns-clause-empty : goal.returns-clause-empty
unfolding data_at packet_at
returns-clause-empty c log words n = refl
