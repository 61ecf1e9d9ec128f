-- The acknowledgement that is released again.
use Rattle.avm_outside.specs.Outlet.{packet}
use Rattle.journal_model.specs.Header.{CarriedData}
use Rattle.journal_model.specs.Journal.{JournalData}
use Rattle.journal_model.specs.Standing.{SignedData}
use Rattle.jrnl_part.specs.Carriage.{carried_signed}
use Rattle.record_model.specs.Released.{Sender, again, again_to, content_pieces, is_recv_from, last_recv, packet_of, read, repeated_from, sender_of, signed_entries}
use Rattle.std.proofs.Common.{◌≡◌, ℕ, ◌<◌, Bool, true, false, List, [], ◌∷◌, Option, Some, None, refl, sym, ap, subst, ◌∙◌}
use Rattle.std.specs.Prelude.{option_map}
use Rattle.std.proofs.lemmas.Bool.{eqb-true}
use Rattle.avm_num.specs.Bytes.{◌>>=◌}
use Rattle.avm_model.specs.Bounds.{are_rows}
use Rattle.avm_model.specs.Content.{ContentData, boot, snap, conin, clock, recv, acked, out, send, halt}
use Rattle.avm_model.specs.Machine.{State}
use Rattle.avm_model.specs.Offer.{Offer, OfferConsole, OfferClock, OfferData, OfferAck, DataIn, data_in, refused, refuse_data, refuse_packet, knows}
use Rattle.avm_model.specs.Packet.{PacketData, SendData, send_at, data_at, ack_bytes}
use Rattle.avm_model.specs.declared.NotTaken.{NotTaken}
use Rattle.avm_model.specs.declared.NotTaken.TheVariants.{NotPacket, UnknownPeer, NotForUs, NotAuthentic, Repeated, WrongNumber, NotOutstanding, NotAsked, Halted as IsHalted, ClockPending, Full as IsFull}
use Rattle.avm_model.proofs.PeerLaws.{found_known}
use Rattle.record_kept.specs.Again.{IsTicketOf}
use Rattle.record_parts.specs.Outs.{packet_by}
use Rattle.record_kept.proofs.Keeping.{low_id}
use Rattle.record_kept.proofs.Resends.{last_is, found, not_found}

pub not_repeated : (why : NotTaken) (o : Option Offer) → (why ≡ Repeated → ⊥) → repeated_from why o ≡ None
not_repeated NotPacket o h = refl
not_repeated UnknownPeer o h = refl
not_repeated NotForUs o h = refl
not_repeated NotAuthentic o h = refl
not_repeated Repeated o h = absurd (h refl)
not_repeated WrongNumber o h = refl
not_repeated NotOutstanding o h = refl
not_repeated NotAsked o h = refl
not_repeated IsHalted o h = refl
not_repeated ClockPending o h = refl
not_repeated IsFull o h = refl

-- ---- the sender of a repeated packet is a known peer

data_packet : (bytes : List ℕ) (d : DataIn) → data_in bytes ≡ Some d → sender_of (data_at bytes) ≡ d.packet.from
data_packet bytes d h = go (data_at bytes) refl h
  where
    pick : (p : PacketData) (m : Option SendData) → option_map {U = DataIn} (λ x. record { packet = p; message = x }) m ≡ Some d → p.from ≡ d.packet.from
    pick p None h = absurd cc
    pick p (Some x) h = ap from_of h
      where
        from_of : Option DataIn → ℕ
        from_of None = p.from
        from_of (Some y) = y.packet.from

    go : (w : Option PacketData) → data_at bytes ≡ w → (w >>= λ p. option_map {U = DataIn} (λ x. record { packet = p; message = x }) (send_at p.content)) ≡ Some d → sender_of (data_at bytes) ≡ d.packet.from
    go None q h = absurd cc
    go (Some p) q h = ap sender_of q ∙ pick p (send_at p.content) h

repeated_low : (s : State) (own : ℕ) (bytes : List ℕ) (p : ℕ) → are_rows own 0 s.devices.peers ≡ true → Some (sender_of (data_at bytes)) ≡ Some p → refused s (OfferData bytes) ≡ Some Repeated → p < 16
unfolding refused
repeated_low s own bytes p rows h e = go (data_in bytes) refl e
  where
    same : sender_of (data_at bytes) ≡ p
    same = cc

    by : (d : DataIn) → data_in bytes ≡ Some d → (b : Bool) → knows s d.packet ≡ b → refuse_data s (Some d) ≡ Some Repeated → p < 16
    by d q true k r =
        let low : d.packet.from < 16 = low_id own 0 s.devices.peers d.packet.from rows (found_known s.devices.peers d.packet.from k) in
        subst (λ (n : ℕ). n < 16) (sym (data_packet bytes d q) ∙ same) low
    by d q false k r = let r' : Some UnknownPeer ≡ Some Repeated = rw k at r in absurd cc

    go : (w : Option DataIn) → data_in bytes ≡ w → refuse_data s w ≡ Some Repeated → p < 16
    go None q r = absurd cc
    go (Some d) q r = by d q (knows s d.packet) refl r

low_data : (s : State) (own : ℕ) (bytes : List ℕ) (p : ℕ) (why : NotTaken) → are_rows own 0 s.devices.peers ≡ true → repeated_from why (Some (OfferData bytes)) ≡ Some p → refused s (OfferData bytes) ≡ Some why → p < 16
low_data s own bytes p NotPacket rows h e = absurd cc
low_data s own bytes p UnknownPeer rows h e = absurd cc
low_data s own bytes p NotForUs rows h e = absurd cc
low_data s own bytes p NotAuthentic rows h e = absurd cc
low_data s own bytes p Repeated rows h e = repeated_low s own bytes p rows h e
low_data s own bytes p WrongNumber rows h e = absurd cc
low_data s own bytes p NotOutstanding rows h e = absurd cc
low_data s own bytes p NotAsked rows h e = absurd cc
low_data s own bytes p IsHalted rows h e = absurd cc
low_data s own bytes p ClockPending rows h e = absurd cc
low_data s own bytes p IsFull rows h e = absurd cc

none_other : (why : NotTaken) (p : ℕ) (o : Option Offer) → repeated_from Repeated o ≡ None → repeated_from why o ≡ Some p → ⊥
none_other NotPacket p o h e = absurd cc
none_other UnknownPeer p o h e = absurd cc
none_other NotForUs p o h e = absurd cc
none_other NotAuthentic p o h e = absurd cc
none_other Repeated p o h e = absurd cc
none_other WrongNumber p o h e = absurd cc
none_other NotOutstanding p o h e = absurd cc
none_other NotAsked p o h e = absurd cc
none_other IsHalted p o h e = absurd cc
none_other ClockPending p o h e = absurd cc
none_other IsFull p o h e = absurd cc

pub low_repeated : (s : State) (own : ℕ) (o : Option Offer) (p : ℕ) (why : NotTaken) → are_rows own 0 s.devices.peers ≡ true → repeated_from why o ≡ Some p → refuse_packet s o ≡ Some why → p < 16
low_repeated s own None p why rows h e = absurd (none_other why p None refl h)
low_repeated s own (Some (OfferConsole bytes)) p why rows h e = absurd (none_other why p (Some (OfferConsole bytes)) refl h)
low_repeated s own (Some (OfferClock value)) p why rows h e = absurd (none_other why p (Some (OfferClock value)) refl h)
low_repeated s own (Some (OfferData bytes)) p why rows h e = low_data s own bytes p why rows h e
low_repeated s own (Some (OfferAck bytes)) p why rows h e = absurd (none_other why p (Some (OfferAck bytes)) refl h)

-- ---- the acknowledgement that is released again

recv_again : (who : Sender) (e : CarriedData) (peer : ℕ) (c : Option ContentData) → is_recv_from peer c ≡ true → content_pieces who e c ≡ packet peer (ack_bytes (packet_of who e)) ∷ []
recv_again who e peer None h = absurd cc
recv_again who e peer (Some (boot count r)) h = absurd cc
recv_again who e peer (Some (snap count r)) h = absurd cc
recv_again who e peer (Some (conin count bytes)) h = absurd cc
recv_again who e peer (Some (clock count value)) h = absurd cc
recv_again who e peer (Some (recv count inner)) h = ap (λ (k : ℕ). packet k (ack_bytes (packet_of who e)) ∷ []) (eqb-true (sender_of (data_at inner)) peer h)
recv_again who e peer (Some (acked count inner)) h = absurd cc
recv_again who e peer (Some (out count bytes)) h = absurd cc
recv_again who e peer (Some (send count to number payload)) h = absurd cc
recv_again who e peer (Some (halt count cause value)) h = absurd cc

-- the last message from a peer
pub record IsLastRecv (who : Sender) (j : JournalData) (peer : ℕ) (t : SignedData) : Type 0 where
  pub entry : CarriedData
  pub ticket : IsTicketOf j t entry
  pub pieces : again_to who j (Some peer) ≡ packet peer (ack_bytes (packet_of who entry)) ∷ []

pub is_last_recv : (who : Sender) (j : JournalData) (peer : ℕ) (t : SignedData) → Some t ≡ option_map carried_signed (last_recv j peer) → IsLastRecv who j peer t
is_last_recv who j peer t h =
    let f = found (last_recv j peer) t h in
    let l = last_is (λ e. is_recv_from peer (read e)) (signed_entries j) f.0 f.1 in
    record {
      entry = f.0;
      ticket = record { among = l.among; ticket = f.2 };
      pieces = ap (λ (w : Option CarriedData). again who w) f.1 ∙ recv_again who f.0 peer (read f.0) l.passes;
    }

pub none_again : (who : Sender) (j : JournalData) (peer : ℕ) → None ≡ option_map carried_signed (last_recv j peer) → again_to who j (Some peer) ≡ []
none_again who j peer h = ap (λ (w : Option CarriedData). again who w) (not_found (last_recv j peer) h)

-- the packet of an entry, made of its ticket and its content
pub acked_packet : (who : Sender) (j : JournalData) (e : CarriedData) (t : SignedData) (content bytes : List ℕ) (peer : ℕ) → IsTicketOf j t e → content ≡ e.frame.content → bytes ≡ ack_bytes (packet_by who t content) → packet peer (ack_bytes (packet_of who e)) ∷ [] ≡ packet peer bytes ∷ []
acked_packet who j e t content bytes peer is ec eb =
    let same : bytes ≡ ack_bytes (packet_of who e) = eb ∙ ap (λ (c : List ℕ). ack_bytes (packet_by who t c)) ec ∙ ap (λ (k : SignedData). ack_bytes (packet_by who k e.frame.content)) (sym is.ticket) in
    ap (λ (x : List ℕ). packet peer x ∷ []) (sym same)
