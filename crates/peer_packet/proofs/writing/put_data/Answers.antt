use Rattle.log_entry.proofs.PacketLaws.{whole_data}
use Rattle.peer_packet.proofs.writing.put_data.Goals as goal

pub returns-clause-again : goal.returns-clause-again
returns-clause-again c p fits = whole_data.again p fits
