-- Packets and the messages in them, without where they lie in memory.
use Rattle.std.specs.Prelude.{List, Bool, Option, Some, None}
use Rattle.avm_model.specs.Content.{ContentData, boot, snap, conin, clock, recv, acked, out, send, halt}
use Rattle.avm_model.specs.Packet.{SendData, RecvData}
use Rattle.avm_model.specs.Offer.{DataIn, AckIn, is_authentic}
use Rattle.avm_model.specs.declared.Peer.{Peer}
use Rattle.log_entry.specs.Views.{body_view}
use Rattle.peer_packet.specs.Parcel.{Parcel, data_parcel, ack_parcel}
use Rattle.replayer.specs.declared.messages.Message.{Message}
use Rattle.replayer.specs.declared.messages.Received.{Received}
use Rattle.replayer.specs.declared.messages.DataPacket.{DataPacket}
use Rattle.replayer.specs.declared.messages.AckPacket.{AckPacket}

abbrev pub message_view : Message → SendData
message_view m = record { count = m.count; peer = m.peer; number = m.number; payload = m.payload.now }

abbrev pub received_view : Received → RecvData
received_view r = record { count = r.count; packet = r.packet.now }

abbrev pub data_view : DataPacket → DataIn
data_view d = record { packet = body_view d.body; message = message_view d.message }

abbrev pub ack_view : AckPacket → AckIn
ack_view a = record { packet = body_view a.body; inner = data_view a.inner }

-- the message of a SEND content, and the packet of a RECV content
abbrev pub sent_by : ContentData → Option SendData
sent_by (boot count root) = None
sent_by (snap count root) = None
sent_by (conin count bytes) = None
sent_by (clock count value) = None
sent_by (recv count packet) = None
sent_by (acked count packet) = None
sent_by (out count bytes) = None
sent_by (send count peer number payload) = Some (record { count = count; peer = peer; number = number; payload = payload })
sent_by (halt count cause value) = None

abbrev pub came_by : ContentData → Option RecvData
came_by (boot count root) = None
came_by (snap count root) = None
came_by (conin count bytes) = None
came_by (clock count value) = None
came_by (recv count packet) = Some (record { count = count; packet = packet })
came_by (acked count packet) = None
came_by (out count bytes) = None
came_by (send count peer number payload) = None
came_by (halt count cause value) = None

-- a packet of either kind is authentic
abbrev pub is_authentic_parcel : List Peer → Parcel → Bool
is_authentic_parcel peers (data_parcel p) = is_authentic peers 8 p
is_authentic_parcel peers (ack_parcel p) = is_authentic peers 5 p
