use Rattle.std.proofs.Common.{◌≡◌}
use Rattle.avm_model.specs.Bounds.{are_rows}
use Rattle.snap_state.proofs.bounds.rows_fit.Given as goal

abbrev pub invariant-loop-row : goal.invariant-loop-row
invariant-loop-row l = are_rows l.own l.low l.row-iterator ≡ are_rows l.own 0 l.fn.rows
