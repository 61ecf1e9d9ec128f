use Rattle.std.proofs.Common.{arith, ◌∙◌, ◌+◌, ap, drop}
use Rattle.avm_num.specs.Room.{Buffer, with_bytes}
use Rattle.avm_num.specs.Lists.{list_bytes}
use Rattle.avm_model.specs.Device.{MessageState}
use Rattle.avm_model.specs.Head.{message_bytes}
use Rattle.snap_state.proofs.Puts.{message_put, size_from, short_at}
use Rattle.snap_state.proofs.queues.put_messages.Goals as goal

pub put_message-requires-clause-short : goal.put_message-requires-clause-short
put_message-requires-clause-short c =
    let m : MessageState = record { peer = c.message_at-peer.result.0; payload = c.message_at-peer.result.1.now } in
    short_at c.args.devices.now.state.peers c.args.devices.now.state.messages c.loop-i.i m c.bounds.ensures.peered.known c.message_at-peer.ensures

pub put_message-requires-clause-room : goal.put_message-requires-clause-room
put_message-requires-clause-room c =
    let m : MessageState = record { peer = c.message_at-peer.result.0; payload = c.message_at-peer.result.1.now } in
    let s = size_from c.args.devices.now.state.messages c.loop-i.i m c.message_at-peer.ensures in
    let l = c.loop-i.invariant.left in
    omega (arith, s, l)

pub loop-i-preserved : goal.loop-i-preserved
loop-i-preserved c =
    let m : MessageState = record { peer = c.message_at-peer.result.0; payload = c.message_at-peer.result.1.now } in
    let i = c.loop-i.invariant in
    let v = c.put_message.ensures.value in
    let l = c.put_message.ensures.left in
    let s = size_from c.args.devices.now.state.messages c.loop-i.i m c.message_at-peer.ensures in
    record {
      value = ap (λ (b : Buffer). with_bytes b (list_bytes message_bytes (drop (c.loop-i.i + 1) c.args.devices.now.state.messages))) v ∙ message_put c.loop-i.out c.args.devices.now.state.messages c.loop-i.i m c.message_at-peer.ensures ∙ i.value;
      left = omega (arith, l, s);
    }
