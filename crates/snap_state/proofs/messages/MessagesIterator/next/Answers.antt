use Rattle.std.proofs.Common.{arith}
use Rattle.avm_model.specs.HeadReading.{message_at}
use Rattle.snap_state.specs.Views.{message_view}
use Rattle.avm_num.proofs.Loops.{none_read, list_next, progress}
use Rattle.snap_state.proofs.messages.MessagesIterator.next.Goals as goal

pub invariant_of-self : goal.invariant_of-self
invariant_of-self c = (list_next message_at message_view c.self.inside.left c.take_message.result _ _ (omega arith) c.self.invariant c.take_message.ensures).some

pub returns-clause-steps : goal.returns-clause-steps
returns-clause-steps c = rw (← c.self.view_is) (list_next message_at message_view c.self.inside.left c.take_message.result _ _ (omega arith) c.self.invariant c.take_message.ensures).gives

pub returns-clause-goes : goal.returns-clause-goes
returns-clause-goes c = rw (← c.self.view_is) (progress message_view _ (λ _. tt) c.take_message.result _ _ (list_next message_at message_view c.self.inside.left c.take_message.result _ _ (omega arith) c.self.invariant c.take_message.ensures).gives)

pub returns-then-self-eq0-clause-steps : goal.returns-then-self-eq0-clause-steps
returns-then-self-eq0-clause-steps c = let e = none_read message_at c.self.inside.left _ (omega arith) in rw (← c.self.view_is) (e, e)
