use Rattle.std.proofs.Common.{◌/◌, ◌^◌, arith}
use Rattle.std.proofs.lemmas.Nat.{one_shl, and_mask}
use Rattle.rv32_decode.proofs.fields.bits.Goals as goal

pub returns : goal.returns
returns c = rw (one_shl c.args.width 32 (omega arith)) (and_mask (c.args.word / 2 ^ c.args.low) c.args.width)
