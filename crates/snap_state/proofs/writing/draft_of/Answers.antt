use Rattle.std.proofs.Common.{arith}
use Rattle.avm_model.specs.HeadState.{data_of}
use Rattle.avm_model.proofs.HeadBounds.{size_most}
use Rattle.snap_state.proofs.Bells.{nine_at_most}
use Rattle.snap_state.proofs.writing.draft_of.Goals as goal

pub put_parts-requires : goal.put_parts-requires
put_parts-requires c =
    let most = size_most (data_of c.args.machine.now.state) c.bounds.ensures.head in
    let nine = nine_at_most c.args.machine.now.state.devices.bell in
    let room = c.new-out.ensures.room in
    record { room = omega (arith, most, nine, room) }
