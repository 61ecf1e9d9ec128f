use Rattle.std.proofs.Common.{◌≡◌, ◌+◌, drop}
use Rattle.avm_num.specs.Room.{with_bytes, left}
use Rattle.snap_state.proofs.queues.put_console.Given as goal

abbrev pub invariant-loop-i : goal.invariant-loop-i
invariant-loop-i l = record {
  value : with_bytes l.out (drop l.i l.devices.state.console) ≡ with_bytes l.fn.out l.devices.state.console;
  left : left l.out + l.i ≡ left l.fn.out;
}
