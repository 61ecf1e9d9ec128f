use Rattle.std.proofs.Common.{arith}
use Rattle.std.proofs.lemmas.List.{length-take-le, take-append-le}
use Rattle.jrnl_store.proofs.Filling.{filled_told}
use Rattle.jrnl_store.proofs.reading.read_bytes.Goals as goal

pub returns-in-Ok-clause-bytes : goal.returns-in-Ok-clause-bytes
returns-in-Ok-clause-bytes g c =
    filled_told _ c.args.at c.args.size _ c.in-Ok.field-0 c.read_at.new.buf _ _ (length-take-le c.args.size c.args.buffer.now c.requires.room) c.in-Ok.ensures.bytes
    (take-append-le c.args.size c.read_at.new.buf _ (let l = c.read_at.auto.buf in omega (arith, l, length-take-le c.args.size c.args.buffer.now c.requires.room)))
