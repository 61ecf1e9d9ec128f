use Rattle.std.proofs.Common.{◌≡◌, ap}
use Rattle.avm_num.specs.Room.{Buffer}
use Rattle.avm_model.specs.Packet.{SendData, send_bytes}
use Rattle.sample_parts.proofs.Making.{send_few, send_whole}
use Rattle.sample_parts.proofs.peer.write_send.Goals as goal

pub returns-clause-bytes : goal.returns-clause-bytes
returns-clause-bytes c =
    let s : SendData = record { count = c.args.count; peer = 0; number = c.args.number; payload = c.args.payload.now } in
    send_whole c.clear.new.self c.put_u64.new.self c.put_u32.new.self c.put_u64-2.new.self c.put.new.self s (ap (λ (b : Buffer). b.bytes) c.clear.ensures) c.put_u64.ensures.value c.put_u32.ensures.value c.put_u64-2.ensures.value c.put.ensures.value

pub returns-clause-short : goal.returns-clause-short
returns-clause-short c =
    let s : SendData = record { count = c.args.count; peer = 0; number = c.args.number; payload = c.args.payload.now } in
    let whole : c.put.new.self.bytes ≡ send_bytes s = send_whole c.clear.new.self c.put_u64.new.self c.put_u32.new.self c.put_u64-2.new.self c.put.new.self s (ap (λ (b : Buffer). b.bytes) c.clear.ensures) c.put_u64.ensures.value c.put_u32.ensures.value c.put_u64-2.ensures.value c.put.ensures.value in
    send_few c.put.new.self.bytes s whole c.requires.few
