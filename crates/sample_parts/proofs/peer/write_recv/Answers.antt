use Rattle.std.proofs.Common.{◌≡◌, ap}
use Rattle.avm_num.specs.Room.{Buffer}
use Rattle.avm_model.specs.Packet.{RecvData, recv_bytes}
use Rattle.sample_parts.proofs.Making.{recv_few, recv_whole}
use Rattle.sample_parts.proofs.peer.write_recv.Goals as goal

pub returns-clause-bytes : goal.returns-clause-bytes
returns-clause-bytes c =
    let r : RecvData = record { count = c.args.count; packet = c.args.message.now } in
    recv_whole c.clear.new.self c.put_u64.new.self c.put.new.self r (ap (λ (b : Buffer). b.bytes) c.clear.ensures) c.put_u64.ensures.value c.put.ensures.value

pub returns-clause-short : goal.returns-clause-short
returns-clause-short c =
    let r : RecvData = record { count = c.args.count; packet = c.args.message.now } in
    let whole : c.put.new.self.bytes ≡ recv_bytes r = recv_whole c.clear.new.self c.put_u64.new.self c.put.new.self r (ap (λ (b : Buffer). b.bytes) c.clear.ensures) c.put_u64.ensures.value c.put.ensures.value in
    recv_few c.put.new.self.bytes r whole c.requires.few
