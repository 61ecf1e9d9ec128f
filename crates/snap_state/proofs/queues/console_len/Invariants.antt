use Rattle.std.proofs.Common.{◌≤◌, length}
use Rattle.snap_state.proofs.queues.console_len.Given as goal

abbrev pub invariant-loop-i : goal.invariant-loop-i
invariant-loop-i l = l.i ≤ length l.devices.state.console
