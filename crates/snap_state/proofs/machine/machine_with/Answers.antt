use Rattle.std.proofs.Common.{refl}
use Rattle.snap_state.specs.Views.{head_view}
use Rattle.avm_model.proofs.HeadBounds.{bounded}
use Rattle.snap_state.proofs.machine.machine_with.Goals as goal

pub invariant_of-hart : goal.invariant_of-hart
invariant_of-hart c = (rw c.all_registers.ensures refl, (bounded (head_view c.args.parts.now) c.requires.bounds).pc)
