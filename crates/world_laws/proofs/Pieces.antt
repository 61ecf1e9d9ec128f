-- What is released shows what stands in the journal.
use Rattle.std.proofs.Common.{◌≡◌, ℕ, List, [], ◌∷◌, ◌++◌, Option, Some, None, refl, sym, ap, subst, ◌∙◌, append_assoc, ◌⊎◌, inl, inr}
use Rattle.std.specs.Option.{option_map}
use Rattle.std.specs.Int.{w32, w64}
use Rattle.std.proofs.lemmas.List.{append-nil}
use Rattle.avm_num.specs.Lists.{be, one, sized_bytes}
use Rattle.avm_model.specs.Content.{ContentData, boot, snap, conin, clock, recv, acked, out, send, halt, content_at, send_data, recv_data}
use Rattle.avm_model.specs.Packet.{PacketData, SendData, RecvData, packet_bytes, data_bytes, ack_bytes, data_at, ack_at, send_at, recv_at, send_bytes, recv_bytes, FitsPacket, FitsSend, FitsRecv}
use Rattle.avm_model.specs.Offer.{OfferData, OfferAck, DataIn, data_in, ack_in, packet_offer}
use Rattle.log_entry.proofs.Contents.{content_read}
use Rattle.log_entry.proofs.PacketLaws.{whole_send, whole_recv, whole_data, whole_ack}
use Rattle.world_model.specs.World.{Mail, SentTo, ReceivedFrom, Parcel}
use Rattle.world_laws.specs.Counting.{data_mail, content_mail, mail_in, data_shows, ack_shows}
use Rattle.world_laws.specs.Events.{shown_by, packet_shows, pieces_show, IsSpelled, AreSpelled}
use Rattle.journal_model.specs.Part.{Part, entry, seal, keep}
use Rattle.journal_model.specs.Standing.{StandingData, behind}
use Rattle.journal_model.specs.Header.{CarriedData}
use Rattle.record_model.specs.Released.{Sender, packet_of, content_pieces, entry_pieces, pieces_from}
use Rattle.avm_outside.specs.Outlet.{Piece, packet, console, auth}
use Rattle.life_model.specs.Life.{Among}
use Rattle.life_model.proofs.Among.{among_left, among_right, among_either}

pub show-append : (a b : List Piece) → pieces_show (a ++ b) ≡ pieces_show a ++ pieces_show b
show-append [] b = refl
show-append (packet peer bytes ∷ a) b = ap (λ (ps : List Parcel). packet_shows bytes ++ ps) (show-append a b) ∙ sym (append_assoc (packet_shows bytes) (pieces_show a) (pieces_show b))
show-append (console bytes ∷ a) b = show-append a b
show-append (auth bytes ∷ a) b = show-append a b

-- ---- a packet as it is offered

packet_parts : (tag : ℕ) (p : PacketData) → packet_bytes tag p ≡ one tag ++ (be w32 p.from ++ (be w64 p.seq ++ (p.before ++ (sized_bytes (be w32) p.content ++ sized_bytes (be w32) p.sig))))
unfolding packet_bytes
packet_parts tag p = simp append_assoc

data_first : (rest : List ℕ) → packet_offer (one 1 ++ rest) ≡ Some (OfferData (one 1 ++ rest))
unfolding one
data_first rest = refl

ack_first : (rest : List ℕ) → packet_offer (one 2 ++ rest) ≡ Some (OfferAck (one 2 ++ rest))
unfolding one
ack_first rest = refl

data_offered : (p : PacketData) → packet_offer (data_bytes p) ≡ Some (OfferData (data_bytes p))
data_offered p = subst (λ (b : List ℕ). packet_offer b ≡ Some (OfferData b)) (sym (packet_parts 1 p)) (data_first _)

ack_offered : (p : PacketData) → packet_offer (ack_bytes p) ≡ Some (OfferAck (ack_bytes p))
ack_offered p = subst (λ (b : List ℕ). packet_offer b ≡ Some (OfferAck b)) (sym (packet_parts 2 p)) (ack_first _)

-- ---- a packet as it is read

data_read : (p : PacketData) (s : SendData) → FitsPacket p → FitsSend s → p.content ≡ send_bytes s → data_in (data_bytes p) ≡ Some (record { packet = p; message = s })
data_read p s fits short is =
    let read : data_at (data_bytes p) ≡ Some p = whole_data.again p (record { packet = fits; send = (s, short, is) }) in
    let inner : send_at p.content ≡ Some s = ap send_at is ∙ whole_send.again s short in
    rw (read, inner) refl

ack_read : (p : PacketData) (r : RecvData) → FitsPacket p → FitsRecv r → p.content ≡ recv_bytes r → ack_in (ack_bytes p) ≡ option_map (λ d. record { packet = p; inner = d }) (data_in r.packet)
ack_read p r fits short is =
    let read : ack_at (ack_bytes p) ≡ Some p = whole_ack.again p (record { packet = fits; recv = (r, short, is) }) in
    let inner : recv_at p.content ≡ Some r = ap recv_at is ∙ whole_recv.again r short in
    rw (read, inner) refl

data_showing : (p : PacketData) (s : SendData) → FitsPacket p → FitsSend s → p.content ≡ send_bytes s → packet_shows (data_bytes p) ≡ record { from = p.from; mail = SentTo s.peer s.number s.payload } ∷ []
data_showing p s fits short is = ap shown_by (data_offered p) ∙ ap data_shows (data_read p s fits short is)

ack_showing : (p : PacketData) (r : RecvData) → FitsPacket p → FitsRecv r → p.content ≡ recv_bytes r → packet_shows (ack_bytes p) ≡ ack_shows (option_map (λ d. record { packet = p; inner = d }) (data_in r.packet))
ack_showing p r fits short is = ap shown_by (ack_offered p) ∙ ap ack_shows (ack_read p r fits short is)

-- ---- a signed entry

-- a packet shows mail of its sender
pub record IsOf (own : ℕ) (ms : List Mail) (p : Parcel) : Type 0 where
  pub from : p.from ≡ own
  pub stands : Among p.mail ms

of_more : (own : ℕ) (a b : List Mail) (p : Parcel) → IsOf own a p → IsOf own (a ++ b) p
of_more own a b p h = record { from = h.from; stands = among_left p.mail a b h.stands }

of_behind : (own : ℕ) (a b : List Mail) (p : Parcel) → IsOf own b p → IsOf own (a ++ b) p
of_behind own a b p h = record { from = h.from; stands = among_right p.mail a b h.stands }

one_of : (own : ℕ) (m : Mail) (ms : List Mail) (p : Parcel) → Among m ms → Among p (record { from = own; mail = m } ∷ []) → IsOf own ms p
one_of own m ms p i (inl e) = subst (λ (x : Parcel). IsOf own ms x) (sym e) (record { from = refl; stands = i })
one_of own m ms p i (inr j) = absurd j

received_of : (q : PacketData) (d : Option DataIn) (p : Parcel) → Among p (ack_shows (option_map (λ d. record { packet = q; inner = d }) d)) → IsOf q.from (data_mail d) p
received_of q None p i = absurd i
received_of q (Some d) p i = one_of q.from (ReceivedFrom d.packet.from d.message.number d.message.payload) (data_mail (Some d)) p (inl refl) i

pub entry_of : (who : Sender) (e : CarriedData) (p : Parcel) → IsSpelled who e → Among p (pieces_show (entry_pieces who e)) → IsOf who.own (content_mail (content_at e.frame.kind e.frame.content)) p
entry_of who e p h i = go (content_at e.frame.kind e.frame.content) refl i
  where
    go : (c : Option ContentData) → content_at e.frame.kind e.frame.content ≡ c → Among p (pieces_show (content_pieces who e c)) → IsOf who.own (content_mail c) p
    go (Some (send count peer number payload)) q i =
        let r = content_read e.frame.kind e.frame.content (send count peer number payload) h.content q in
        let s : SendData = send_data count peer number payload in
        let shows = data_showing (packet_of who e) s h.packet r.0 (sym r.2) in
        one_of who.own (SentTo peer number payload) (SentTo peer number payload ∷ []) p (inl refl) (subst (λ (ps : List Parcel). Among p ps) (append-nil _ ∙ shows) i)
    go (Some (recv count inner)) q i =
        let r = content_read e.frame.kind e.frame.content (recv count inner) h.content q in
        let shows = ack_showing (packet_of who e) (recv_data count inner) h.packet r.0 (sym r.2) in
        received_of (packet_of who e) (data_in inner) p (subst (λ (ps : List Parcel). Among p ps) (append-nil _ ∙ shows) i)
    go (Some (boot count root)) q i = absurd i
    go (Some (snap count root)) q i = absurd i
    go (Some (conin count bytes)) q i = absurd i
    go (Some (clock count value)) q i = absurd i
    go (Some (acked count inner)) q i = absurd i
    go (Some (out count bytes)) q i = absurd i
    go (Some (halt count cause value)) q i = absurd i
    go None q i = absurd i

-- ---- the parts of a batch

split_of : (own : ℕ) (a b : List Piece) (x y : List Mail) (p : Parcel) → (Among p (pieces_show a) → IsOf own x p) → (Among p (pieces_show b) → IsOf own y p) → Among p (pieces_show (a ++ b)) → IsOf own (x ++ y) p
split_of own a b x y p f g i = go (among_either p (pieces_show a) (pieces_show b) (subst (λ (ps : List Parcel). Among p ps) (show-append a b) i))
  where
    go : Among p (pieces_show a) ⊎ Among p (pieces_show b) → IsOf own (x ++ y) p
    go (inl j) = of_more own x y p (f j)
    go (inr j) = of_behind own x y p (g j)

pub batch_of : (who : Sender) (point : StandingData) (parts : List Part) (p : Parcel) → AreSpelled who point parts → Among p (pieces_show (pieces_from who point parts)) → IsOf who.own (mail_in parts) p
batch_of who point [] p h i = absurd i
batch_of who point (entry f ∷ ps) p h i =
    let e : CarriedData = record { leaf = point.used; before = point.hash; frame = f } in
    split_of who.own (entry_pieces who e) (pieces_from who (behind point (entry f)) ps) (content_mail (content_at f.kind f.content)) (mail_in ps) p (λ j. entry_of who e p h.0 j) (λ j. batch_of who (behind point (entry f)) ps p h.1 j) i
batch_of who point (seal ∷ ps) p h i = batch_of who (behind point seal) ps p h i
batch_of who point (keep k ∷ ps) p h i = batch_of who (behind point (keep k)) ps p h i
