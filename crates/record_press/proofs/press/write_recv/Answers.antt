use Rattle.std.proofs.Common.{ap}
use Rattle.avm_num.specs.Room.{Buffer}
use Rattle.record_press.proofs.Making.{recv_few, recv_whole}
use Rattle.record_press.proofs.press.write_recv.Goals as goal

pub returns-clause-bytes : goal.returns-clause-bytes
returns-clause-bytes c =
    recv_whole c.clear.new.self c.put_u64.new.self c.put.new.self c.args.count c.args.message.now (ap (λ (b : Buffer). b.bytes) c.clear.ensures) c.put_u64.ensures.value c.put.ensures.value

pub returns-clause-short : goal.returns-clause-short
returns-clause-short c =
    recv_few c.put.new.self.bytes c.args.count c.args.message.now
    (recv_whole c.clear.new.self c.put_u64.new.self c.put.new.self c.args.count c.args.message.now (ap (λ (b : Buffer). b.bytes) c.clear.ensures) c.put_u64.ensures.value c.put.ensures.value)
    c.requires.few
