use Rattle.avm_model.proofs.HeadBounds.{size_most}
use Rattle.avm_model.proofs.HeadLength.{head_length}
use Rattle.avm_model.proofs.log_laws.heads_are_short.Goals as goal

pub returns-clause-size : goal.returns-clause-size
returns-clause-size c h fits = head_length h fits

pub returns-clause-most : goal.returns-clause-most
returns-clause-most c h e = size_most h e
