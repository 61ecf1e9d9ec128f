use Rattle.std.proofs.Common.{◌≡◌}
use Rattle.avm_model.specs.Bounds.{knows}
use Rattle.snap_state.proofs.bounds.is_known.Given as goal

abbrev pub invariant-loop-row : goal.invariant-loop-row
invariant-loop-row l = knows l.row-iterator l.id ≡ knows l.fn.rows l.id
