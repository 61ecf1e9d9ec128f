use Rattle.std.proofs.Common.{◌≡◌, ◌++◌}
use Rattle.snap_state.proofs.machine.rows_of.Given as goal

abbrev pub invariant-loop-row : goal.invariant-loop-row
invariant-loop-row l = l.all.items ++ l.row-iterator ≡ l.fn.rows
