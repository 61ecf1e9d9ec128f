use Rattle.std.proofs.Common.{arith}
use Rattle.avm_model.specs.HeadReading.{peer_at}
use Rattle.avm_num.proofs.Loops.{none_read, list_next, progress}
use Rattle.snap_state.proofs.peers.PeersIterator.next.Goals as goal

pub invariant_of-self : goal.invariant_of-self
invariant_of-self c = (list_next peer_at (λ p. p) c.self.inside.left c.take_peer.result _ _ (omega arith) c.self.invariant c.take_peer.ensures).some

pub returns-clause-steps : goal.returns-clause-steps
returns-clause-steps c = rw (← c.self.view_is) (list_next peer_at (λ p. p) c.self.inside.left c.take_peer.result _ _ (omega arith) c.self.invariant c.take_peer.ensures).gives

pub returns-clause-goes : goal.returns-clause-goes
returns-clause-goes c = rw (← c.self.view_is) (progress (λ p. p) _ (λ _. tt) c.take_peer.result _ _ (list_next peer_at (λ p. p) c.self.inside.left c.take_peer.result _ _ (omega arith) c.self.invariant c.take_peer.ensures).gives)

pub returns-then-self-eq0-clause-steps : goal.returns-then-self-eq0-clause-steps
returns-then-self-eq0-clause-steps c = let e = none_read peer_at c.self.inside.left _ (omega arith) in rw (← c.self.view_is) (e, e)
