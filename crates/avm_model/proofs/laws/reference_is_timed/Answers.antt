use Rattle.avm_model.proofs.ReferenceLaws.{is_timed}
use Rattle.avm_model.proofs.laws.reference_is_timed.Goals as goal

pub returns : goal.returns
returns c = is_timed
