-- Packets are read as they are spelled; no bytes are both a DATA packet and an ACK packet.
use Rattle.std.proofs.Common.{◌≡◌, ℕ, List, ◌++◌, Option, Some, None, option_map, IfSome, IfNone, refl, sym, ap, subst, ◌∙◌, append_assoc}
use Rattle.std.specs.Int.{w32, w64}
use Rattle.avm_num.specs.Bytes.{IsBytes}
use Rattle.avm_num.specs.Lists.{be, one, sized_bytes}
use Rattle.avm_model.specs.Packet.{PacketData, packet_bytes, packet_at, data_at, ack_bytes, ack_at}
use Rattle.log_entry.proofs.PacketLaws.{whole_data, whole_ack}
use Rattle.avm_model.specs.Basics.{or_else}
use Rattle.peer_packet.specs.Parcel.{Parcel, data_parcel, ack_parcel, parcel_bytes, FitsParcel, parcel_at}
use Rattle.peer_packet.specs.declared.packet.Packet.{Packet}
use Rattle.peer_packet.specs.Views.{packet_view}

-- an ACK packet is no DATA packet
other_tag : (rest : List ℕ) → packet_at 1 (one 2 ++ rest) ≡ None
unfolding packet_at one
other_tag rest = refl

ack_parts : (p : PacketData) → ack_bytes p ≡ one 2 ++ (be w32 p.from ++ (be w64 p.seq ++ (p.before ++ (sized_bytes (be w32) p.content ++ sized_bytes (be w32) p.sig))))
unfolding packet_bytes
ack_parts p = simp append_assoc

ack_no_data : (p : PacketData) → data_at (ack_bytes p) ≡ None
unfolding data_at
ack_no_data p = let none : packet_at 1 (ack_bytes p) ≡ None = ap (packet_at 1) (ack_parts p) ∙ other_tag _ in rw none refl

parcel_again : (p : Parcel) → FitsParcel p → parcel_at (parcel_bytes p) ≡ Some p
parcel_again (data_parcel p) fits = rw (whole_data.again p fits) refl
parcel_again (ack_parcel p) fits = rw (ack_no_data p, whole_ack.again p fits) refl

parcel_read : (bytes : List ℕ) (p : Parcel) → IsBytes bytes → parcel_at bytes ≡ Some p → FitsParcel p × (bytes ≡ parcel_bytes p)
parcel_read bytes p fits e = go (data_at bytes) refl (ack_at bytes) refl e
  where
    go : (d : Option PacketData) → data_at bytes ≡ d → (a : Option PacketData) → ack_at bytes ≡ a → or_else (option_map data_parcel d) (option_map ack_parcel a) ≡ Some p → FitsParcel p × (bytes ≡ parcel_bytes p)
    go (Some d) is a other h =
        let f = whole_data.front bytes d fits is in
        let g : data_parcel d ≡ p = cc in
        subst (λ (q : Parcel). FitsParcel q × (bytes ≡ parcel_bytes q)) g (f.1, f.0)
    go None is (Some a) other h =
        let f = whole_ack.front bytes a fits other in
        let g : ack_parcel a ≡ p = cc in
        subst (λ (q : Parcel). FitsParcel q × (bytes ≡ parcel_bytes q)) g (f.1, f.0)
    go None is None other h = absurd cc

-- ---- the clauses of the reader

pub found : (r : Option Packet) (bytes : List ℕ) → IsBytes bytes → option_map packet_view r ≡ parcel_at bytes → IfSome r (λ p. FitsParcel (packet_view p) × (bytes ≡ parcel_bytes (packet_view p)))
found None bytes fits e = tt
found (Some p) bytes fits e = parcel_read bytes (packet_view p) fits (sym e)

pub none : (r : Option Packet) (bytes : List ℕ) → option_map packet_view r ≡ parcel_at bytes → IfNone r ((p : Parcel) → FitsParcel p → bytes ≡ parcel_bytes p → ⊥)
none (Some p) bytes e = tt
none None bytes e = λ p fits is.
    let again = parcel_again p fits in
    let same : parcel_at bytes ≡ parcel_at (parcel_bytes p) = ap parcel_at is in
    cc
