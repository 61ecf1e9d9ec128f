use Rattle.std.proofs.Common.{◌≡◌, ◌-◌}
use Rattle.avm_model.specs.Judge.{quiet}
use Rattle.avm_model.specs.PageMarks.{MarksPages}
use Rattle.avm_model.specs.Reference.{timed}
use Rattle.guest_machine.specs.Outs.{IsEmpty, IsOuts}
use Rattle.replayer.specs.Pending.{ram_of}
use Rattle.replayer.proofs.settling.advance.Given as goal

-- no output yet, and the rest of the way is that from the start
abbrev pub invariant-loop : goal.invariant-loop
invariant-loop l =
    IsEmpty l.pending × IsOuts l.pending × (l.counter ≡ l.machine.state.count)
    × (quiet timed (l.count - l.machine.state.count) l.machine.state ≡ quiet timed (l.count - l.fn.machine.state.count) l.fn.machine.state)
    × MarksPages (ram_of l.fn.machine) (ram_of l.machine)
