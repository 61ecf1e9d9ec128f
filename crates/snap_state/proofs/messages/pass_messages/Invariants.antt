use Rattle.std.proofs.Common.{◌≡◌, ◌-◌}
use Rattle.avm_num.specs.Lists.{list_at, left_of}
use Rattle.avm_model.specs.HeadReading.{message_at}
use Rattle.snap_state.proofs.messages.pass_messages.Given as goal

abbrev pub invariant-loop : goal.invariant-loop
invariant-loop l = left_of (list_at message_at (l.count - l.counter) l.view) ≡ left_of (list_at message_at l.count l.fn.view)
