use Rattle.std.proofs.Common.{◌≡◌, ◌<◌, ◌^◌, ◌∙◌, ap, arith}
use Rattle.avm_model.specs.Device.{DeviceState, MessageState, row_of}
use Rattle.avm_plain.proofs.Numbers.{has_room}
use Rattle.avm_plain.proofs.taking.add_message.Goals as goal

pub receives_one-requires : goal.receives_one-requires
receives_one-requires c =
    let peers : c.as_mut_slice.result.now ≡ c.args.devices.peers = c.as_mut_slice.ensures.value ∙ ap (λ (d : DeviceState). d.peers) c.devices.view_is in
    let peer : c.message.inside.peer ≡ c.args.message.peer = ap (λ (m : MessageState). m.peer) c.message.view_is in
    let low : c.args.number < 2 ^ 64 = omega arith in
    rw (peers, peer) (has_room (row_of c.args.devices.peers c.args.message.peer) c.args.number low c.requires)
