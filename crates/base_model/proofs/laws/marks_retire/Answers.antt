use Rattle.base_model.proofs.Marks.{marked_retired}
use Rattle.base_model.proofs.laws.marks_retire.Goals as goal

pub returns : goal.returns
returns c j n front items rest bytes is begun unmarked join room e = marked_retired j n front items rest bytes is begun unmarked join room e
