use Rattle.std.proofs.Common.{◌≡◌, ◌+◌, drop}
use Rattle.avm_num.specs.Room.{with_bytes, left}
use Rattle.avm_num.specs.Lists.{list_bytes}
use Rattle.avm_model.specs.Head.{message_bytes}
use Rattle.avm_model.specs.Sizes.{messages_size}
use Rattle.snap_state.proofs.queues.put_messages.Given as goal

abbrev pub invariant-loop-i : goal.invariant-loop-i
invariant-loop-i l = record {
  value : with_bytes l.out (list_bytes message_bytes (drop l.i l.devices.state.messages)) ≡ with_bytes l.fn.out (list_bytes message_bytes l.devices.state.messages);
  left : left l.out + messages_size l.devices.state.messages ≡ left l.fn.out + messages_size (drop l.i l.devices.state.messages);
}
