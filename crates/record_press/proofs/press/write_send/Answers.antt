use Rattle.std.proofs.Common.{ap}
use Rattle.avm_num.specs.Room.{Buffer}
use Rattle.record_press.proofs.Making.{send_few, send_whole}
use Rattle.record_press.proofs.press.write_send.Goals as goal

pub returns-clause-bytes : goal.returns-clause-bytes
returns-clause-bytes c =
    send_whole c.clear.new.self c.put_u64.new.self c.put_u32.new.self c.put_u64-2.new.self c.put.new.self c.args.count c.args.sent.now.peer c.args.sent.now.number c.args.payload.now (ap (λ (b : Buffer). b.bytes) c.clear.ensures) c.put_u64.ensures.value c.put_u32.ensures.value c.put_u64-2.ensures.value c.put.ensures.value

pub returns-clause-short : goal.returns-clause-short
returns-clause-short c =
    send_few c.put.new.self.bytes c.args.count c.args.sent.now.peer c.args.sent.now.number c.args.payload.now
    (send_whole c.clear.new.self c.put_u64.new.self c.put_u32.new.self c.put_u64-2.new.self c.put.new.self c.args.count c.args.sent.now.peer c.args.sent.now.number c.args.payload.now (ap (λ (b : Buffer). b.bytes) c.clear.ensures) c.put_u64.ensures.value c.put_u32.ensures.value c.put_u64-2.ensures.value c.put.ensures.value)
    c.requires.few
