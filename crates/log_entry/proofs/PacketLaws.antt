-- Packets and the contents in them are read as they are spelled.
use Rattle.std.proofs.Common.{Bool, ◌≡◌, ℕ, ◌^◌, ◌<◌, true, ◌&&◌, nat_le, is_some, List, [], ◌++◌, length, Option, Some, refl, sym, ap, subst, ◌∙◌, append_assoc, append-nil, leb-true, le-leb, MatchBool, false}
use Rattle.std.specs.Int.{w32, w64}
use Rattle.avm_num.specs.Bytes.{IsBytes, ◌>>=◌, kept}
use Rattle.avm_num.specs.Lists.{be, one, sized_bytes}
use Rattle.avm_num.specs.Walk.{is_nil}
use Rattle.avm_num.proofs.Numbers.{bind_some, kept_some, and_true}
use Rattle.avm_num.proofs.Fields.{Reads, start, next, ends, goes, reads_32, reads_byte, reads_piece, reads_exact, reads_sized}
use Rattle.avm_model.specs.Packet.{SendData, send_bytes, FitsSend, send_behind, send_at, PacketData, packet_bytes, FitsPacket, packet_at, data_bytes, FitsData, data_at, IsData, RecvData, recv_bytes, FitsRecv, recv_behind, recv_at, ack_bytes, FitsAck, ack_at, IsAck}
use Rattle.avm_model.proofs.PartLaws.{reads_count, reads_ordinal, reads_signature}
use Rattle.avm_model.proofs.PartLengths.{middle_bytes_are}
use Rattle.log_entry.proofs.Options.{is_some_is, nil_is}
use Rattle.log_entry.proofs.Wholes.{ReadsWhole}

-- ---- the content of a SEND entry

pub record SendRead (count : ℕ) (rest : List ℕ) (s : SendData) : Type 0 where
  pub count_is : s.count ≡ count
  pub spelled : be w64 count ++ rest ≡ send_bytes s
  pub fits : count < 2 ^ 62 → FitsSend s

pub send_read : (count : ℕ) (rest : List ℕ) (s : SendData) → IsBytes rest → send_behind count rest ≡ Some s → SendRead count rest s
unfolding send_behind send_bytes
send_read count rest s fits e =
    let a = next reads_32 rest [] rest (start rest fits) _ s e in
    let b = next reads_ordinal rest _ _ a.1 _ s a.3 in
    let k = kept_some (nat_le (length b.0.1) 1024) (record { count = count; peer = a.0.0; number = b.0.0; payload = b.0.1 }) s b.3 in
    let spelled : be w64 count ++ rest ≡ be w64 count ++ be w32 a.0.0 ++ be w64 b.0.0 ++ b.0.1 = ap (λ (t : List ℕ). be w64 count ++ t) b.1.parts ∙ simp append_assoc in
    subst (λ (q : SendData). SendRead count rest q) k.1
    (record { count_is = refl; spelled = spelled; fits = λ lt. record { count = lt; peer = a.2; number = b.2; payload = leb-true _ _ k.0 } })

pub send_again : (s : SendData) → FitsSend s → send_behind s.count (be w32 s.peer ++ (be w64 s.number ++ s.payload)) ≡ Some s
unfolding send_behind
send_again s fits = goes reads_32 s.peer _ _ fits.peer ∙ goes reads_ordinal s.number _ _ fits.number ∙ rw (le-leb _ _ fits.payload) refl

pub send_parts : (s : SendData) → send_bytes s ≡ be w64 s.count ++ (be w32 s.peer ++ (be w64 s.number ++ s.payload))
unfolding send_bytes
send_parts s = simp append_assoc

pub whole_send : ReadsWhole send_at send_bytes FitsSend
unfolding send_at
whole_send = record {
  front = λ bytes s fits e.
      let a = next reads_count bytes [] bytes (start bytes fits) _ s e in
      let r = send_read a.0.0 a.0.1 s a.1.rest_fits a.3 in
      (a.1.parts ∙ r.spelled, r.fits a.2);
  again = λ s fits. ap send_at (send_parts s) ∙ goes reads_count s.count _ _ fits.count ∙ send_again s fits;
}

-- ---- a packet

pub reads_packet : (tag : ℕ) → Reads (packet_at tag) (packet_bytes tag) FitsPacket
unfolding packet_at packet_bytes
reads_packet tag = record {
  front = λ bytes p fits e.
      let a = next (reads_exact reads_byte tag tt) bytes _ _ (start bytes fits) _ p e in
      let b = next reads_32 bytes _ _ a.1 _ p a.3 in
      let c = next reads_ordinal bytes _ _ b.1 _ p b.3 in
      let d = next (reads_piece 32) bytes _ _ c.1 _ p c.3 in
      let f = next (reads_sized reads_32) bytes _ _ d.1 _ p d.3 in
      let g = next reads_signature bytes _ _ f.1 _ p f.3 in
      ends (packet_bytes tag) FitsPacket bytes _ p g.3 g.1 (record { from = b.2; seq = c.2; before = d.2; content = f.2; sig = g.2 });
  again = λ x rest fits.
      let regrouped : packet_bytes tag x ++ rest ≡ one tag ++ (be w32 x.from ++ (be w64 x.seq ++ (x.before ++ (sized_bytes (be w32) x.content ++ (sized_bytes (be w32) x.sig ++ rest))))) = simp append_assoc in
      ap (packet_at tag) regrouped ∙ goes (reads_exact reads_byte tag tt) tt _ _ tt ∙ goes reads_32 x.from _ _ fits.from ∙ goes reads_ordinal x.seq _ _ fits.seq ∙ goes (reads_piece 32) x.before _ _ fits.before ∙ goes (reads_sized reads_32) x.content _ _ fits.content ∙ goes reads_signature x.sig _ _ fits.sig;
}

-- the content of a packet is bytes
content_bytes_are : (tag : ℕ) (p : PacketData) (bytes rest : List ℕ) → IsBytes bytes → bytes ≡ packet_bytes tag p ++ rest → IsBytes p.content
unfolding packet_bytes
content_bytes_are tag p bytes rest fits is =
    let regrouped : packet_bytes tag p ++ rest ≡ (one tag ++ be w32 p.from ++ be w64 p.seq ++ p.before ++ be w32 (length p.content)) ++ (p.content ++ (sized_bytes (be w32) p.sig ++ rest)) = simp append_assoc in
    middle_bytes_are bytes _ p.content _ fits (is ∙ regrouped)

-- a packet to its last byte, whose content has a form
abbrev packet_with : {B : Type 0} → ℕ → (List ℕ → Option B) → List ℕ → Option PacketData
packet_with tag inner bytes = packet_at tag bytes >>= λ p. kept (is_nil p.1 && is_some (inner p.0.content)) p.0

abbrev FitsWith : {B : Type 0} → (B → List ℕ) → (B → Type 0) → PacketData → Type 0
FitsWith {B} spell Fits p = FitsPacket p × ((x : B) × Fits x × (p.content ≡ spell x))

whole_packet : {B : Type 0} (tag : ℕ) (inner : List ℕ → Option B) (spell : B → List ℕ) (Fits : B → Type 0) → ReadsWhole inner spell Fits → ReadsWhole (packet_with tag inner) (packet_bytes tag) (FitsWith spell Fits)
whole_packet tag inner spell Fits r = record {
  front = λ bytes p fits e.
      let a = bind_some (packet_at tag bytes) _ p e in
      let k = kept_some (is_nil a.0.1 && is_some (inner a.0.0.content)) a.0.0 p a.2 in
      let t = and_true _ _ k.0 in
      let f = (reads_packet tag).front bytes a.0 fits a.1 in
      let x = is_some_is (inner a.0.0.content) t.1 in
      let g = r.front a.0.0.content x.0 (content_bytes_are tag a.0.0 bytes a.0.1 fits f.0.parts) x.1 in
      let whole : bytes ≡ packet_bytes tag a.0.0 = f.0.parts ∙ ap (λ (t : List ℕ). packet_bytes tag a.0.0 ++ t) (nil_is a.0.1 t.0) ∙ append-nil _ in
      subst (λ (q : PacketData). (bytes ≡ packet_bytes tag q) × FitsWith spell Fits q) k.1 (whole, (f.1, (x.0, g.1, g.0)));
  again = λ p fits.
      let x = fits.1 in
      let has : inner p.content ≡ Some x.0 = ap inner x.2 ∙ r.again x.0 x.1 in
      let read : packet_at tag (packet_bytes tag p) ≡ Some (p, []) = ap (packet_at tag) (sym (append-nil (packet_bytes tag p))) ∙ (reads_packet tag).again p [] fits.0 in
      rw (read, has) refl;
}

pub whole_data : ReadsWhole data_at data_bytes FitsData
unfolding data_at
whole_data =
    let w = whole_packet 1 send_at send_bytes FitsSend whole_send in
    record {
      front = λ bytes p fits e. let f = w.front bytes p fits e in (f.0, record { packet = f.1.0; send = f.1.1 });
      again = λ p fits. w.again p (fits.packet, fits.send);
    }

-- ---- the content of a RECV entry

pub is_data_is : (bytes : List ℕ) → IsBytes bytes → is_some (data_at bytes) ≡ true → IsData bytes
is_data_is bytes fits some =
    let p = is_some_is (data_at bytes) some in
    let f = whole_data.front bytes p.0 fits p.1 in
    (p.0, f.1, f.0)

pub data_is_some : (bytes : List ℕ) → IsData bytes → is_some (data_at bytes) ≡ true
data_is_some bytes is = let read : data_at bytes ≡ Some is.0 = ap data_at is.2 ∙ whole_data.again is.0 is.1 in rw read refl

pub record RecvRead (count : ℕ) (rest : List ℕ) (r : RecvData) : Type 0 where
  pub count_is : r.count ≡ count
  pub spelled : be w64 count ++ rest ≡ recv_bytes r
  pub fits : count < 2 ^ 62 → FitsRecv r

pub recv_read : (count : ℕ) (rest : List ℕ) (r : RecvData) → IsBytes rest → recv_behind count rest ≡ Some r → RecvRead count rest r
unfolding recv_behind recv_bytes
recv_read count rest r fits e =
    let k = kept_some (is_some (data_at rest)) (record { count = count; packet = rest }) r e in
    subst (λ (q : RecvData). RecvRead count rest q) k.1
    (record { count_is = refl; spelled = refl; fits = λ lt. record { count = lt; packet = is_data_is rest fits k.0 } })

pub recv_again : (r : RecvData) → FitsRecv r → recv_behind r.count r.packet ≡ Some r
unfolding recv_behind
recv_again r fits = rw (data_is_some r.packet fits.packet) refl

pub recv_parts : (r : RecvData) → recv_bytes r ≡ be w64 r.count ++ r.packet
unfolding recv_bytes
recv_parts r = refl

pub whole_recv : ReadsWhole recv_at recv_bytes FitsRecv
unfolding recv_at
whole_recv = record {
  front = λ bytes r fits e.
      let a = next reads_count bytes [] bytes (start bytes fits) _ r e in
      let x = recv_read a.0.0 a.0.1 r a.1.rest_fits a.3 in
      (a.1.parts ∙ x.spelled, x.fits a.2);
  again = λ r fits. ap recv_at (recv_parts r) ∙ goes reads_count r.count _ _ fits.count ∙ recv_again r fits;
}

pub whole_ack : ReadsWhole ack_at ack_bytes FitsAck
unfolding ack_at
whole_ack =
    let w = whole_packet 2 recv_at recv_bytes FitsRecv whole_recv in
    record {
      front = λ bytes p fits e. let f = w.front bytes p fits e in (f.0, record { packet = f.1.0; recv = f.1.1 });
      again = λ p fits. w.again p (fits.packet, fits.recv);
    }

pub is_ack_is : (bytes : List ℕ) → IsBytes bytes → is_some (ack_at bytes) ≡ true → IsAck bytes
is_ack_is bytes fits some =
    let p = is_some_is (ack_at bytes) some in
    let f = whole_ack.front bytes p.0 fits p.1 in
    (p.0, f.1, f.0)

pub ack_is_some : (bytes : List ℕ) → IsAck bytes → is_some (ack_at bytes) ≡ true
ack_is_some bytes is = let read : ack_at bytes ≡ Some is.0 = ap ack_at is.2 ∙ whole_ack.again is.0 is.1 in rw read refl

pub data_decides : (b : Bool) (bytes : List ℕ) → IsBytes bytes → b ≡ is_some (data_at bytes) → MatchBool b (IsData bytes) (IsData bytes → ⊥)
data_decides true bytes fits e = is_data_is bytes fits (sym e)
data_decides false bytes fits e = λ is. let some = data_is_some bytes is in let h : false ≡ true = e ∙ some in cc

pub ack_decides : (b : Bool) (bytes : List ℕ) → IsBytes bytes → b ≡ is_some (ack_at bytes) → MatchBool b (IsAck bytes) (IsAck bytes → ⊥)
ack_decides true bytes fits e = is_ack_is bytes fits (sym e)
ack_decides false bytes fits e = λ is. let some = ack_is_some bytes is in let h : false ≡ true = e ∙ some in cc
