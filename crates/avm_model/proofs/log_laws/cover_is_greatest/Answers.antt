use Rattle.avm_model.proofs.Covers.{cover_is, cover_none}
use Rattle.avm_model.proofs.log_laws.cover_is_greatest.Goals as goal

pub returns-clause-some : goal.returns-clause-some
returns-clause-some c ms j n e = cover_is ms j n e

pub returns-clause-none : goal.returns-clause-none
returns-clause-none c ms e = cover_none ms e
