use Rattle.hss_auths.proofs.HssAuthLaws.{yields, progress}
use Rattle.hss_auths.proofs.auths.HssAuthsIterator.next.Goals as goal

pub returns-clause-steps : goal.returns-clause-steps
returns-clause-steps c = rw (← c.self.view_is) (yields _ _ _ c.read_hss_auth.ensures)

pub returns-clause-goes : goal.returns-clause-goes
returns-clause-goes c = rw (← c.self.view_is) (progress _ (λ _. tt) _ _ _ (yields _ _ _ c.read_hss_auth.ensures))
