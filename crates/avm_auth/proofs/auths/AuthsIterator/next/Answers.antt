use Rattle.avm_auth.proofs.AuthLaws.{yields, progress}
use Rattle.avm_auth.proofs.auths.AuthsIterator.next.Goals as goal

pub returns-clause-steps : goal.returns-clause-steps
returns-clause-steps c = rw (← c.self.view_is) (yields _ _ _ c.read_auth.ensures)

pub returns-clause-goes : goal.returns-clause-goes
returns-clause-goes c = rw (← c.self.view_is) (progress _ (λ _. tt) _ _ _ (yields _ _ _ c.read_auth.ensures))
