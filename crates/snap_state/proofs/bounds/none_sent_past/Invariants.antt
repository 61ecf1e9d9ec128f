use Rattle.std.proofs.Common.{◌≡◌}
use Rattle.avm_model.specs.Bounds.{none_past}
use Rattle.snap_state.proofs.bounds.none_sent_past.Given as goal

abbrev pub invariant-loop-row : goal.invariant-loop-row
invariant-loop-row l = none_past l.count l.row-iterator ≡ none_past l.count l.fn.rows
