use Rattle.avm_model.specs.Device.{MessageState}
use Rattle.avm_model.proofs.HeadBounds.{head_known}
use Rattle.snap_state.proofs.machine.queue_all.Goals as goal

pub take_message-requires-clause-known : goal.take_message-requires-clause-known
take_message-requires-clause-known c =
    let m : MessageState = record { peer = c.in-Some.message.peer; payload = c.in-Some.message.payload.now } in
    head_known c.loop-message.devices.state.peers m c.loop-message.message-iterator _ c.in-Some.ensures.steps c.loop-message.invariant.known
