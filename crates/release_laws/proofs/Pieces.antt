-- The authenticator that a piece gives is that of the item for which it was released.
use Rattle.std.proofs.Common.{◌≡◌, inl, inr, ⊎_elim, ℕ, ◌+◌, ◌-◌, ◌≤◌, ◌<◌, ◌^◌, ◌==◌, ◌&&◌, nat_lt, Bool, true, false, List, [], ◌∷◌, ◌++◌, length, Option, Some, None, refl, sym, ap, subst, ◌∙◌, arith, append_assoc, append-nil, eqb-true, ltb-true}
use Rattle.std.specs.List.{AllByRecursion}
use Rattle.std.specs.Option.{option_map}
use Rattle.std.specs.Int.{w32, w64}
use Rattle.std.specs.Prelude.{if◌then◌else◌}
use Rattle.avm_num.specs.Lists.{be, one, sized_bytes}
use Rattle.avm_num.proofs.Numbers.{and_true}
use Rattle.avm_model.specs.Auth.{AuthData, auth_at, auth_bytes, signed_text_of}
use Rattle.avm_model.specs.Chain.{link, next_hash}
use Rattle.avm_model.specs.Content.{ContentData, boot, snap, conin, clock, recv, acked, out, send, halt, content_at, content_bytes, FitsContent, kind_of, recv_data, send_data}
use Rattle.avm_model.specs.Frame.{FitsFrame, FrameData}
use Rattle.avm_model.specs.LmsTypes.{chains_of, height_of}
use Rattle.avm_model.specs.Offer.{AckIn, DataIn, OfferAck, OfferData, ack_in, data_in, packet_offer}
use Rattle.avm_model.specs.Packet.{FitsPacket, FitsRecv, FitsSend, PacketData, RecvData, SendData, ack_at, ack_bytes, data_at, data_bytes, packet_bytes, recv_at, recv_bytes, send_at, send_bytes}
use Rattle.avm_model.specs.Parts.{IsOrdinal, longest_signature}
use Rattle.avm_model.proofs.KeyLaws.{sig_of-length}
use Rattle.avm_model.proofs.LmsLaw.{length-hash}
use Rattle.avm_auth.proofs.AuthLaws.{reads_auth}
use Rattle.avm_outside.specs.Outlet.{Piece, auth, console, packet}
use Rattle.log_entry.proofs.Contents.{content_again}
use Rattle.log_entry.proofs.PacketLaws.{whole_ack, whole_data, whole_recv, whole_send}
use Rattle.journal_model.specs.Header.{CarriedData}
use Rattle.journal_model.specs.Journal.{follows, is_number, may_stand, pages_ascend, snap_of}
use Rattle.journal_model.specs.Part.{Part, entry, is_signed_kind, keep, pages_of, seal}
use Rattle.journal_model.specs.Standing.{SignedData, StandingData, behind, entry_signed, seal_signed, signed_from, signed_in}
use Rattle.journal_spelling.specs.Spelled.{FitsPart}
use Rattle.record_model.specs.Released.{Sender, authenticator, content_pieces, packet_of, part_pieces, sender_of, signature_at}
use Rattle.life_model.specs.Life.{Among, Told, told, told_from}
use Rattle.life_model.proofs.Among.{among_either, among_left, among_right}
use Rattle.release_laws.specs.Formed.{Gives, formed, formed_of}

-- ---- a signature is short

chains_most : (ots : ℕ) → chains_of ots ≤ 265
unfolding chains_of
chains_most ots = go (ots == 1) (ots == 2) (ots == 3)
  where
    go : (a b c : Bool) → (if a then 265 else if b then 133 else if c then 67 else 34) ≤ 265
    go true b c = omega arith
    go false true c = omega arith
    go false false true = omega arith
    go false false false = omega arith

height_most : (lms : ℕ) → height_of lms ≤ 25
unfolding height_of
height_most lms = go (lms == 5) (lms == 6) (lms == 7) (lms == 8)
  where
    go : (a b c d : Bool) → (if a then 5 else if b then 10 else if c then 15 else if d then 20 else 25) ≤ 25
    go true b c d = omega arith
    go false true c d = omega arith
    go false false true d = omega arith
    go false false false true = omega arith
    go false false false false = omega arith

sig_short : (who : Sender) (leaf seq : ℕ) (hash : List ℕ) → length (signature_at who leaf seq hash) ≤ longest_signature
sig_short who leaf seq hash =
    let long = sig_of-length who.key leaf (signed_text_of seq hash) in
    let chains = chains_most who.key.ots in
    let height = height_most who.key.lms in
    omega (arith, long, chains, height)

-- ---- a packet as it is offered

packet_parts : (tag : ℕ) (p : PacketData) → packet_bytes tag p ≡ one tag ++ (be w32 p.from ++ (be w64 p.seq ++ (p.before ++ (sized_bytes (be w32) p.content ++ sized_bytes (be w32) p.sig))))
unfolding packet_bytes
packet_parts tag p = simp append_assoc

data_first : (rest : List ℕ) → packet_offer (one 1 ++ rest) ≡ Some (OfferData (one 1 ++ rest))
unfolding one
data_first rest = refl

ack_first : (rest : List ℕ) → packet_offer (one 2 ++ rest) ≡ Some (OfferAck (one 2 ++ rest))
unfolding one
ack_first rest = refl

data_offered : (p : PacketData) → packet_offer (data_bytes p) ≡ Some (OfferData (data_bytes p))
data_offered p = subst (λ (b : List ℕ). packet_offer b ≡ Some (OfferData b)) (sym (packet_parts 1 p)) (data_first _)

ack_offered : (p : PacketData) → packet_offer (ack_bytes p) ≡ Some (OfferAck (ack_bytes p))
ack_offered p = subst (λ (b : List ℕ). packet_offer b ≡ Some (OfferAck b)) (sym (packet_parts 2 p)) (ack_first _)

-- ---- what is formed from it

data_formed : (p : PacketData) (s : SendData) → FitsPacket p → FitsSend s → p.content ≡ send_bytes s → formed (packet_offer (data_bytes p)) ≡ Some (formed_of 8 p)
data_formed p s fits short is =
    let read : data_at (data_bytes p) ≡ Some p = whole_data.again p (record { packet = fits; send = (s, short, is) }) in
    let inner : send_at p.content ≡ Some s = ap send_at is ∙ whole_send.again s short in
    ap formed (data_offered p) ∙ rw (read, inner) refl

-- none where what it acknowledges can't be read
ack_formed : (p : PacketData) (r : RecvData) (a : AuthData) → FitsPacket p → FitsRecv r → p.content ≡ recv_bytes r → formed (packet_offer (ack_bytes p)) ≡ Some a → a ≡ formed_of 5 p
ack_formed p r a fits short is e = go (data_in r.packet) (sym whole ∙ (sym (ap formed (ack_offered p)) ∙ e))
  where
    read : ack_at (ack_bytes p) ≡ Some p
    read = whole_ack.again p (record { packet = fits; recv = (r, short, is) })

    inner : recv_at p.content ≡ Some r
    inner = ap recv_at is ∙ whole_recv.again r short

    whole : option_map (λ (k : AckIn). formed_of 5 k.packet) (ack_in (ack_bytes p)) ≡ option_map (λ (k : AckIn). formed_of 5 k.packet) (option_map (λ (d : DataIn). record { packet = p; inner = d }) (data_in r.packet))
    whole = rw (read, inner) refl

    go : (d : Option DataIn) → option_map (λ (k : AckIn). formed_of 5 k.packet) (option_map (λ (d : DataIn). record { packet = p; inner = d }) d) ≡ Some a → a ≡ formed_of 5 p
    go None h = absurd cc
    go (Some d) h = let x : formed_of 5 p ≡ a = cc in sym x

-- ---- a released piece

-- an item of number n signs the authenticator's pair at its leaf
pub record IsItem (who : Sender) (items : List SignedData) (n : ℕ) (a : AuthData) : Type 0 where
  pub item : SignedData
  pub stands : Among item items
  pub number : n ≡ item.seq
  pub seq : a.seq ≡ item.seq
  pub hash : a.hash ≡ item.hash
  pub sig : a.sig ≡ signature_at who item.leaf item.seq item.hash

item_left : (who : Sender) (xs ys : List SignedData) (n : ℕ) (a : AuthData) → IsItem who xs n a → IsItem who (xs ++ ys) n a
item_left who xs ys n a i = record { item = i.item; stands = among_left i.item xs ys i.stands; number = i.number; seq = i.seq; hash = i.hash; sig = i.sig }

item_right : (who : Sender) (xs ys : List SignedData) (n : ℕ) (a : AuthData) → IsItem who ys n a → IsItem who (xs ++ ys) n a
item_right who xs ys n a i = record { item = i.item; stands = among_right i.item xs ys i.stands; number = i.number; seq = i.seq; hash = i.hash; sig = i.sig }

abbrev at : StandingData → FrameData → CarriedData
at s f = record { leaf = s.used; before = s.hash; frame = f }

-- the packet of a signed entry forms what the entry signs
entry_item : (who : Sender) (s : StandingData) (f : FrameData) (n : ℕ) (a : AuthData) → is_signed_kind f.kind ≡ true → n ≡ f.seq → a ≡ formed_of f.kind (packet_of who (at s f)) → IsItem who (signed_in s (entry f)) n a
entry_item who s f n a kind number e = record {
  item = entry_signed s f;
  stands = rw kind (inl refl);
  number = number;
  seq = ap (λ (x : AuthData). x.seq) e;
  hash = ap (λ (x : AuthData). x.hash) e;
  sig = ap (λ (x : AuthData). x.sig) e;
}

only : (n : ℕ) (p : Piece) (t : Told) → Among t (told n (p ∷ [])) → (t.seq ≡ n) × (t.piece ≡ p)
only n p t (inl e) = (ap (λ (x : Told). x.seq) e, ap (λ (x : Told). x.piece) e)
only n p t (inr h) = absurd h

inside : (a b : AuthData) → Some b ≡ Some a → a ≡ b
inside a b e = let x : b ≡ a = cc in sym x

-- what an entry of a content releases
content_gives : (who : Sender) (s : StandingData) (f : FrameData) (t : Told) (a : AuthData) → FitsPacket (packet_of who (at s f)) → (c : ContentData) → FitsContent c → kind_of c ≡ f.kind → content_bytes c ≡ f.content
    → Among t (told f.seq (content_pieces who (at s f) (Some c))) → Gives t.piece a → IsItem who (signed_in s (entry f)) t.seq a
content_gives who s f t a fits (send count peer number payload) short kind bytes h g =
    let p = packet_of who (at s f) in
    let o = only f.seq (packet peer (data_bytes p)) t h in
    let given : formed (packet_offer (data_bytes p)) ≡ Some a = subst (λ (x : Piece). Gives x a) o.1 g in
    let is : a ≡ formed_of 8 p = inside a (formed_of 8 p) (sym (data_formed p (send_data count peer number payload) fits short (sym bytes)) ∙ given) in
    entry_item who s f t.seq a (subst (λ (n : ℕ). is_signed_kind n ≡ true) kind refl) o.0 (subst (λ (n : ℕ). a ≡ formed_of n p) kind is)
content_gives who s f t a fits (recv count inner) short kind bytes h g =
    let p = packet_of who (at s f) in
    let o = only f.seq (packet (sender_of (data_at inner)) (ack_bytes p)) t h in
    let given : formed (packet_offer (ack_bytes p)) ≡ Some a = subst (λ (x : Piece). Gives x a) o.1 g in
    let is : a ≡ formed_of 5 p = ack_formed p (recv_data count inner) a fits short (sym bytes) given in
    entry_item who s f t.seq a (subst (λ (n : ℕ). is_signed_kind n ≡ true) kind refl) o.0 (subst (λ (n : ℕ). a ≡ formed_of n p) kind is)
content_gives who s f t a fits (out count bytes) short kind is h g = absurd (subst (λ (x : Piece). Gives x a) (only f.seq (console bytes) t h).1 g)
content_gives who s f t a fits (boot count root) short kind is h g = absurd h
content_gives who s f t a fits (snap count root) short kind is h g = absurd h
content_gives who s f t a fits (conin count bytes) short kind is h g = absurd h
content_gives who s f t a fits (clock count value) short kind is h g = absurd h
content_gives who s f t a fits (acked count inner) short kind is h g = absurd h
content_gives who s f t a fits (halt count cause value) short kind is h g = absurd h

-- what an entry releases
entry_gives : (who : Sender) (s : StandingData) (f : FrameData) (t : Told) (a : AuthData) → who.own < 2 ^ 32 → length s.hash ≡ 32 → FitsFrame f → Among t (told f.seq (part_pieces who s (entry f))) → Gives t.piece a → IsItem who (signed_in s (entry f)) t.seq a
entry_gives who s f t a own long fits h g =
    let form = fits.form in
    let c = form.0 in
    let read : content_at f.kind f.content ≡ Some c = rw (sym form.2, sym form.3) (content_again c form.1) in
    let packet_fits : FitsPacket (packet_of who (at s f)) = record { from = own; seq = fits.seq; before = long; content = fits.short; sig = sig_short who s.used f.seq (next_hash s.hash f) } in
    content_gives who s f t a packet_fits c form.1 form.2 form.3 (subst (λ (o : Option ContentData). Among t (told f.seq (content_pieces who (at s f) o))) read h) g

first_inside : (p q : AuthData × List ℕ) → Some p ≡ Some q → p.0 ≡ q.0
first_inside p q e = let same : p ≡ q = cc in ap (λ (x : AuthData × List ℕ). x.0) same

-- what a seal releases
seal_gives : (who : Sender) (s : StandingData) (t : Told) (a : AuthData) → length s.hash ≡ 32 → IsOrdinal (s.next - 1) → Among t (told (s.next - 1) (part_pieces who s seal)) → Gives t.piece a → IsItem who (signed_in s seal) t.seq a
seal_gives who s t a long number h g =
    let o = only (s.next - 1) (auth (authenticator who s)) t h in
    let x : AuthData = record { seq = s.next - 1; hash = s.hash; sig = signature_at who s.used (s.next - 1) s.hash } in
    let read : auth_at (auth_bytes x) ≡ Some (x, []) = ap auth_at (sym (append-nil (auth_bytes x))) ∙ reads_auth.again x [] (record { seq = number; hash = long; sig = sig_short who s.used (s.next - 1) s.hash }) in
    let given : auth_at (auth_bytes x) ≡ Some (a, []) = subst (λ (p : Piece). Gives p a) o.1 g in
    let is : a ≡ x = first_inside (a, []) (x, []) (sym given ∙ read) in
    record {
      item = seal_signed s;
      stands = inl refl;
      number = o.0;
      seq = ap (λ (y : AuthData). y.seq) is;
      hash = ap (λ (y : AuthData). y.hash) is;
      sig = ap (λ (y : AuthData). y.sig) is;
    }

-- what parts that follow a point release
pub parts_give : (who : Sender) (first pages : ℕ) (last : Option ℕ) (s : StandingData) (ps : List Part) (t : Told) (a : AuthData) → who.own < 2 ^ 32 → length s.hash ≡ 32 → (first < s.next → IsOrdinal (s.next - 1))
    → follows first pages s.next last ps ≡ true → AllByRecursion FitsPart ps → Among t (told_from who s ps) → Gives t.piece a → IsItem who (signed_from s ps) t.seq a
parts_give who first pages last s [] t a own long number e fits h g = absurd h
parts_give who first pages last s (entry f ∷ ps) t a own long number e fits h g =
    let p = and_true (f.seq == s.next && may_stand first s.next f.kind) (follows first pages (s.next + 1) (snap_of f) ps) e in
    let is : f.seq ≡ s.next = eqb-true f.seq s.next (and_true (f.seq == s.next) (may_stand first s.next f.kind) p.0).0 in
    let here : (s.next + 1) - 1 ≡ f.seq = omega (arith, is) in
    ⊎_elim (λ own_piece. item_left who (signed_in s (entry f)) (signed_from (behind s (entry f)) ps) t.seq a (entry_gives who s f t a own long fits.0 own_piece g))
    (λ later. item_right who (signed_in s (entry f)) (signed_from (behind s (entry f)) ps) t.seq a
    (parts_give who first pages (snap_of f) (behind s (entry f)) ps t a own (length-hash (link s.hash f)) (λ lt. subst IsOrdinal (sym here) fits.0.seq) p.1 fits.1 later g))
    (among_either t (told f.seq (part_pieces who s (entry f))) (told_from who (behind s (entry f)) ps) h)
parts_give who first pages last s (seal ∷ ps) t a own long number e fits h g =
    let p = and_true (nat_lt first s.next) (follows first pages s.next None ps) e in
    let lt : first < s.next = ltb-true first s.next p.0 in
    ⊎_elim (λ own_piece. item_left who (signed_in s seal) (signed_from (behind s seal) ps) t.seq a (seal_gives who s t a long (number lt) own_piece g))
    (λ later. item_right who (signed_in s seal) (signed_from (behind s seal) ps) t.seq a (parts_give who first pages None (behind s seal) ps t a own long number p.1 fits.1 later g))
    (among_either t (told (s.next - 1) (part_pieces who s seal)) (told_from who (behind s seal) ps) h)
parts_give who first pages last s (keep k ∷ ps) t a own long number e fits h g =
    let p = and_true (is_number last k.seq && pages_ascend 0 pages (pages_of k)) (follows first pages s.next None ps) e in
    parts_give who first pages None s ps t a own long number p.1 fits.1 h g
