use Rattle.peer_packet.proofs.ParcelLaws.{found, none}
use Rattle.peer_packet.proofs.packet.read_packet.Goals as goal

pub returns-clause-found : goal.returns-clause-found
returns-clause-found c = found _ _ c.are_bytes.ensures c.read.ensures

pub returns-clause-none : goal.returns-clause-none
returns-clause-none c = none _ _ c.read.ensures
