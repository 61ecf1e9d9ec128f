use Rattle.std.proofs.Common.{◌≡◌}
use Rattle.avm_model.specs.Bounds.{are_messages}
use Rattle.snap_state.proofs.bounds.messages_fit.Given as goal

abbrev pub invariant-loop-message : goal.invariant-loop-message
invariant-loop-message l = are_messages l.rows l.message-iterator ≡ are_messages l.rows l.fn.messages
