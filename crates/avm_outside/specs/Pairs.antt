-- Packets with their peers.
use Rattle.std.specs.Prelude.{ℕ, List, map}
use Rattle.avm_outside.specs.declared.mem_outlet.PacketTo.{PacketTo}

abbrev pub packet_pair : PacketTo → ℕ × List ℕ
packet_pair p = (p.peer, p.bytes.items)

abbrev pub packet_pairs : List PacketTo → List (ℕ × List ℕ)
packet_pairs packets = map packet_pair packets
