use Rattle.std.proofs.Common.{◌≤◌, length}
use Rattle.snap_state.proofs.queues.message_count.Given as goal

abbrev pub invariant-loop-i : goal.invariant-loop-i
invariant-loop-i l = l.i ≤ length l.devices.state.messages
