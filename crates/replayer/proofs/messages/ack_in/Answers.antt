use Rattle.std.proofs.Common.{is_some, sym, ap, arith}
use Rattle.log_entry.proofs.PacketLaws.{is_ack_is}
use Rattle.replayer.proofs.messages.ack_in.Goals as goal

pub returns-clause-packet : goal.returns-clause-packet
returns-clause-packet c = is_ack_is c.args.bytes.now (λ i. omega (arith, c.type_inv.bytes i)) (ap is_some (sym c.in_ok-body.ensures))
