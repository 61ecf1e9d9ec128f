-- A packet of either kind (docs/FORMATS.md, "Packets").
use Rattle.std.specs.Prelude.{ℕ, List, Option, Some, None, option_map}
use Rattle.avm_model.specs.Basics.{or_else}
use Rattle.avm_model.specs.Packet.{PacketData, data_bytes, FitsData, data_at, ack_bytes, FitsAck, ack_at}
use Rattle.avm_model.specs.Chain.{committed}

pub data Parcel : Type 0 where
  data_parcel : PacketData → Parcel
  ack_parcel : PacketData → Parcel

abbrev pub parcel_bytes : Parcel → List ℕ
parcel_bytes (data_parcel p) = data_bytes p
parcel_bytes (ack_parcel p) = ack_bytes p

abbrev pub FitsParcel : Parcel → Type 0
FitsParcel (data_parcel p) = FitsData p
FitsParcel (ack_parcel p) = FitsAck p

-- a DATA packet, or else an ACK packet
abbrev pub parcel_at : List ℕ → Option Parcel
parcel_at bytes = or_else (option_map data_parcel (data_at bytes)) (option_map ack_parcel (ack_at bytes))

-- what the sender committed to: a SEND entry, or a RECV entry
abbrev pub committed_by : Parcel → List ℕ
committed_by (data_parcel p) = committed 8 p
committed_by (ack_parcel p) = committed 5 p
