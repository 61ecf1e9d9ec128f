use Rattle.std.proofs.Common.{◌≡◌, ◌-◌, ◌≤◌}
use Rattle.avm_view.specs.Viewing.{Stands}
use Rattle.view_model.specs.Views.{Run}
use Rattle.avm_view.proofs.viewer.go_to.Given as goal

abbrev pub invariant-loop-viewer : goal.invariant-loop-viewer
invariant-loop-viewer l = record {
  low : l.viewer.point.state.count ≤ l.count;
  last : l.viewer.last ≡ l.fn.viewer.last;
  stands : (r : Run) → Stands r l.fn.viewer → Stands r l.viewer;
}

abbrev pub decreases-loop-viewer : goal.decreases-loop-viewer
decreases-loop-viewer l = l.count - l.viewer.point.state.count
