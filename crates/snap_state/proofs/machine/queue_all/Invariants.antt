use Rattle.std.proofs.Common.{◌≡◌, ◌+◌, ◌++◌, ◌≤◌, true, length}
use Rattle.avm_model.specs.Bounds.{are_messages}
use Rattle.snap_state.proofs.machine.queue_all.Given as goal

abbrev pub invariant-loop-message : goal.invariant-loop-message
invariant-loop-message l = record {
  same : record l.devices { state = record l.devices.state { messages = l.devices.state.messages ++ l.message-iterator } } ≡ record l.fn.devices { state = record l.fn.devices.state { messages = l.fn.devices.state.messages ++ l.fn.messages } };
  known : are_messages l.devices.state.peers l.message-iterator ≡ true;
  few : length l.devices.state.messages + length l.message-iterator ≤ 8;
}
