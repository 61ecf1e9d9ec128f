use Rattle.avm_model.proofs.HeadReads.{head_read, head_again}
use Rattle.avm_model.proofs.log_laws.heads_are_spelled_once.Goals as goal

pub returns-clause-read : goal.returns-clause-read
returns-clause-read c bytes h fits e = head_read bytes h fits e

pub returns-clause-again : goal.returns-clause-again
returns-clause-again c h fits bounds = head_again h fits bounds
