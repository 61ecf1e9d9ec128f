use Rattle.log_entry.proofs.PacketLaws.{whole_ack}
use Rattle.peer_packet.proofs.writing.put_ack.Goals as goal

pub returns-clause-again : goal.returns-clause-again
returns-clause-again c p fits = whole_ack.again p fits
