use Rattle.std.proofs.Common.{◌≡◌, length}
use Rattle.avm_model.specs.Bounds.{are_rows}
use Rattle.avm_script.proofs.bounds.rows_fit.Given as goal

abbrev pub invariant-loop-left : goal.invariant-loop-left
invariant-loop-left l = are_rows l.own l.low l.left ≡ are_rows l.own 0 l.fn.rows

abbrev pub decreases-loop-left : goal.decreases-loop-left
decreases-loop-left l = length l.left
