use Rattle.avm_auth.proofs.AuthLaws.{reads_auth}
use Rattle.avm_auth.proofs.auth.put_auth.Goals as goal

pub returns-clause-again : goal.returns-clause-again
returns-clause-again c a rest fits = reads_auth.again a rest fits
