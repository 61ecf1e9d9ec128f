use Rattle.std.proofs.Common.{sym}
use Rattle.snap_state.specs.Views.{head_view}
use Rattle.avm_model.proofs.HeadBounds.{head_bounded}
use Rattle.snap_state.proofs.machine.machine_of.Goals as goal

pub machine_with-requires-clause-bounds : goal.machine_with-requires-clause-bounds
machine_with-requires-clause-bounds c = head_bounded c.args.head.now (head_view c.in-Some.parts) (sym c.in-Some.ensures)
