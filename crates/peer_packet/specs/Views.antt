-- Packets without where they lie in memory.
use Rattle.log_entry.specs.Views.{body_view}
use Rattle.peer_packet.specs.Parcel.{Parcel, data_parcel, ack_parcel}
use Rattle.peer_packet.specs.declared.packet.Packet.{Packet}
use Rattle.peer_packet.specs.declared.packet.Packet.TheVariants as packet

abbrev pub packet_view : Packet → Parcel
packet_view (packet.Data body) = data_parcel (body_view body)
packet_view (packet.Ack body) = ack_parcel (body_view body)
