-- What comes in from outside: console bytes, clock values, and packets as their bytes (docs/FORMATS.md, "Packets"). When it is
-- refused, and the state after it. The order of the refusals is this project's own.
use Rattle.std.specs.Prelude.{ℕ, ◌==◌, ◌&&◌, not, Bool, false, List, [], ◌∷◌, Option, Some, None, option_map, is_some, if◌then◌else◌}
use Rattle.avm_num.specs.Bytes.{◌>>=◌}
use Rattle.avm_model.specs.Device.{row_of}
use Rattle.avm_model.specs.Machine.{State}
use Rattle.avm_model.specs.Input.{InputState, Console, Clock, Message, Acked, Refusal, Take}
use Rattle.avm_model.specs.Packet.{PacketData, SendData, data_at, send_at, ack_at, recv_at}
use Rattle.avm_model.specs.Chain.{committed}
use Rattle.avm_model.specs.Auth.{signed_text_of}
use Rattle.avm_model.specs.LmsValid.{valid}
use Rattle.avm_model.specs.declared.Peer.{Peer}
use Rattle.avm_model.specs.declared.NotTaken.{NotTaken}
use Rattle.avm_model.specs.declared.NotTaken.TheVariants.{NotPacket, UnknownPeer, NotForUs, NotAuthentic}

-- the signature verifies under a peer's key, on the signed text of the packet's number and the hash that its sender committed to
abbrev pub signed_by : Option Peer → ℕ → PacketData → Bool
signed_by None kind p = false
signed_by (Some row) kind p = valid row.key (signed_text_of p.seq (committed kind p)) p.sig

-- a packet is authentic under the key of the peer that it is from
unfoldable pub is_authentic : List Peer → ℕ → PacketData → Bool
is_authentic peers kind p = signed_by (row_of peers p.from) kind p

-- a packet, and the message that it holds or acknowledges
pub record DataIn : Type 0 where
  pub packet : PacketData
  pub message : SendData

pub record AckIn : Type 0 where
  pub packet : PacketData
  pub inner : DataIn

-- the bytes as a DATA packet
abbrev pub data_in : List ℕ → Option DataIn
data_in bytes = data_at bytes >>= λ p. option_map (λ m. record { packet = p; message = m }) (send_at p.content)

-- the bytes as an ACK packet, with the DATA packet inside
abbrev pub ack_in : List ℕ → Option AckIn
ack_in bytes = ack_at bytes >>= λ p. recv_at p.content >>= λ r. option_map (λ d. record { packet = p; inner = d }) (data_in r.packet)

-- what a packet gives to the machine
abbrev pub message_of : DataIn → InputState
message_of d = Message d.packet.from d.message.number d.message.payload

abbrev pub acked_of : AckIn → InputState
acked_of a = Acked a.packet.from a.inner.message.number

abbrev pub knows : State → PacketData → Bool
knows s p = is_some (row_of s.devices.peers p.from)

-- the first condition that fails: for DATA the message is to be to the own id
abbrev pub refuse_data : State → Option DataIn → Option NotTaken
refuse_data s None = Some NotPacket
refuse_data s (Some d) =
    if not (knows s d.packet) then Some UnknownPeer else
    if not (d.message.peer == s.devices.own) then Some NotForUs else
    if not (is_authentic s.devices.peers 8 d.packet) then Some NotAuthentic else Refusal s (message_of d)

-- for ACK the message inside is to be from the own id, to the peer that acknowledges it
abbrev pub refuse_ack : State → Option AckIn → Option NotTaken
refuse_ack s None = Some NotPacket
refuse_ack s (Some a) =
    if not (knows s a.packet) then Some UnknownPeer else
    if not (a.inner.packet.from == s.devices.own && a.inner.message.peer == a.packet.from) then Some NotForUs else
    if not (is_authentic s.devices.peers 5 a.packet) then Some NotAuthentic else Refusal s (acked_of a)

-- what is offered to the machine: console bytes, a clock value, bytes as a DATA packet, bytes as an ACK packet
pub data Offer : Type 0 where
  OfferConsole : List ℕ → Offer
  OfferClock : ℕ → Offer
  OfferData : List ℕ → Offer
  OfferAck : List ℕ → Offer

-- the first condition that fails, or none
unfoldable pub refused : State → Offer → Option NotTaken
refused s (OfferConsole bytes) = Refusal s (Console bytes)
refused s (OfferClock value) = Refusal s (Clock value)
refused s (OfferData bytes) = refuse_data s (data_in bytes)
refused s (OfferAck bytes) = refuse_ack s (ack_in bytes)

abbrev pub take_data : State → Option DataIn → State
take_data s None = s
take_data s (Some d) = Take s (message_of d)

abbrev pub take_ack : State → Option AckIn → State
take_ack s None = s
take_ack s (Some a) = Take s (acked_of a)

-- the state after an offer that is not refused
unfoldable pub taken : State → Offer → State
taken s (OfferConsole bytes) = Take s (Console bytes)
taken s (OfferClock value) = Take s (Clock value)
taken s (OfferData bytes) = take_data s (data_in bytes)
taken s (OfferAck bytes) = take_ack s (ack_in bytes)

-- bytes that begin with 1 are offered as DATA, with 2 as ACK; others are no packet
abbrev pub packet_offer : List ℕ → Option Offer
packet_offer [] = None
packet_offer (b ∷ bytes) =
    if b == 1 then Some (OfferData (b ∷ bytes)) else
    if b == 2 then Some (OfferAck (b ∷ bytes)) else None

abbrev pub refuse_packet : State → Option Offer → Option NotTaken
refuse_packet s None = Some NotPacket
refuse_packet s (Some o) = refused s o
