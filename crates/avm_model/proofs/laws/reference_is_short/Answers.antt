use Rattle.avm_model.proofs.ReferenceShort.{reference_short}
use Rattle.avm_model.proofs.laws.reference_is_short.Goals as goal

pub returns : goal.returns
returns c n s os pos = reference_short n s os pos
