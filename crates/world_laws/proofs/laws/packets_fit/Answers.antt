use Rattle.world_laws.proofs.Spelling.{all_spelled}
use Rattle.world_laws.proofs.laws.packets_fit.Goals as goal

pub returns : goal.returns
returns c = record { spelled = λ who p parts own long h. all_spelled who p parts own long h }
