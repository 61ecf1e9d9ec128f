-- Laws of the tickets that are kept.
use Rattle.journal_model.specs.Header.{CarriedData}
use Rattle.journal_model.specs.Journal.{JournalData, parts, with_record}
use Rattle.journal_model.specs.Part.{Part, entry, keep, seal}
use Rattle.journal_model.specs.Standing.{SignedData, StandingData, behind, standing, start}
use Rattle.jrnl_part.specs.Carriage.{carried_signed}
use Rattle.jrnl_store.specs.Kept.{ticket_view}
use Rattle.jrnl_store.specs.declared.ticket.Ticket.{Ticket}
use Rattle.record_model.specs.Released.{is_recv_from, is_send_to, last_send, last_that, number_in, outstanding, read, sender_of, signed_entries, signed_frame, signed_frames, with_number}
use Rattle.record_parts.specs.Outs.{AreQuiet}
use Rattle.std.proofs.Common.{◌≡◌, ℕ, zero, suc, ◌+◌, ◌<◌, ◌≤◌, Bool, true, false, List, [], ◌∷◌, ◌++◌, length, fold, Option, Some, None, IfSome, refl, sym, ap, subst, ◌∙◌, append_assoc, arith, slice_get, slice_set, ne_eqb}
use Rattle.std.specs.Prelude.{option_map, replicate, nat_eq, nat_le, slice_index_or, ◌&&◌, IsSome}
use Rattle.std.proofs.lemmas.List.{append-nil}
use Rattle.std.proofs.lemmas.Bool.{eqb-true, eq-eqb, and_parts, ltb-true}
use Rattle.avm_num.specs.Bytes.{◌>>=◌}
use Rattle.avm_model.specs.Content.{recv, send}
use Rattle.avm_model.specs.Packet.{data_at}
use Rattle.avm_model.specs.Bounds.{is_row, are_rows, knows}
use Rattle.avm_model.specs.declared.Peer.{Peer}
use Rattle.avm_model.proofs.PeerLaws.{row_parts, found_known}
use Rattle.avm_model.specs.Device.{row_of}
use Rattle.avm_model.specs.Machine.{State}
use Rattle.honest_model.proofs.Logs.{record-parts}
use Rattle.record_kept.specs.declared.kept.KeptRow.{KeptRow}
use Rattle.record_kept.specs.declared.kept.KeptSend.{KeptSend}
use Rattle.record_kept.specs.Tickets.{AreLow, SentData, sent_of, sent_view, recv_at, sent_at, AreKept, AreKeptOf}

-- ---- the last that passes

pub last_one : {A : Type 0} (p : A → Bool) (xs : List A) (e : A) → p e ≡ true → last_that p (xs ++ e ∷ []) ≡ Some e
last_one p [] e q = rw q refl
last_one p (x ∷ xs) e q = rw (last_one p xs e q) refl

pub last_none : {A : Type 0} (p : A → Bool) (xs : List A) (e : A) → p e ≡ false → last_that p (xs ++ e ∷ []) ≡ last_that p xs
last_none p [] e q = rw q refl
last_none p (x ∷ xs) e q = rw (last_none p xs e q) refl

-- ---- rows

get_same : {A : Type 0} (xs : List A) (i : ℕ) (x : A) → i < length xs → slice_get (slice_set xs i x) i ≡ Some x
get_same [] i x h = absurd (omega (arith, h))
get_same (y ∷ xs) zero x h = refl
get_same (y ∷ xs) (suc i) x h = get_same xs i x (omega (arith, h))

get_other : {A : Type 0} (xs : List A) (i k : ℕ) (x : A) → nat_eq i k ≡ false → slice_get (slice_set xs i x) k ≡ slice_get xs k
get_other xs i k x h = go xs i k x (λ e. let q = eq-eqb i k e in absurd cc)
  where
    go : {A : Type 0} (xs : List A) (i k : ℕ) (x : A) → (i ≡ k → ⊥) → slice_get (slice_set xs i x) k ≡ slice_get xs k
    go [] i k x h = refl
    go (y ∷ xs) zero zero x h = absurd (h refl)
    go (y ∷ xs) zero (suc k) x h = refl
    go (y ∷ xs) (suc i) zero x h = refl
    go (y ∷ xs) (suc i) (suc k) x h = go xs i k x (λ e. h (ap suc e))

some_same : {x y : SentData} → Some x ≡ Some y → x ≡ y
some_same {x} {y} h = ap (λ (o : Option SentData). or_this x o) h
  where
    or_this : SentData → Option SentData → SentData
    or_this d None = d
    or_this d (Some v) = v

abbrev empty : KeptRow
empty = record { recv = None; sent = None }

recv_none : (n id : ℕ) → recv_at (replicate n empty) id ≡ None
recv_none zero id = refl
recv_none (suc n) zero = refl
recv_none (suc n) (suc id) = recv_none n id

sent_none : (n id : ℕ) → sent_at (replicate n empty) id ≡ None
sent_none zero id = refl
sent_none (suc n) zero = refl
sent_none (suc n) (suc id) = sent_none n id

pub kept_none : (rows : List KeptRow) → rows ≡ replicate 16 empty → AreKept rows []
kept_none rows e = record {
  recv = λ id lt. ap (λ (r : List KeptRow). recv_at r id) e ∙ recv_none 16 id;
  sent = λ id lt. ap (λ (r : List KeptRow). sent_at r id) e ∙ sent_none 16 id;
}

-- ---- a message that came

-- the entry is that of a message from this peer, with this ticket
pub record IsRecv (e : CarriedData) (peer : ℕ) (t : SignedData) : Type 0 where
  pub from : (id : ℕ) → is_recv_from id (read e) ≡ nat_eq peer id
  pub to : (id : ℕ) → is_send_to id (read e) ≡ false
  pub ticket : carried_signed e ≡ t

pub is_recv : (e : CarriedData) (peer count : ℕ) (packet : List ℕ) (t : SignedData) → read e ≡ Some (recv count packet) → sender_of (data_at packet) ≡ peer → carried_signed e ≡ t → IsRecv e peer t
is_recv e peer count packet t r s same = record {
  from = λ id. rw (r, s) refl;
  to = λ id. rw r refl;
  ticket = same;
}

pub recv_kept : (rows : List KeptRow) (es : List CarriedData) (e : CarriedData) (peer : ℕ) (row : KeptRow) (ticket : Ticket) → peer < length rows → slice_get rows peer ≡ Some row → IsRecv e peer (ticket_view ticket) → AreKept rows es → AreKept (slice_set rows peer (record row { recv = Some ticket })) (es ++ e ∷ [])
recv_kept rows es e peer row ticket lt at is h = record {
  recv = λ id low. recvs id low (nat_eq peer id) refl;
  sent = λ id low. sents id low (nat_eq peer id) refl ∙ ap (λ (x : Option CarriedData). x >>= sent_of) (sym (last_none (λ x. is_send_to id (read x)) es e (is.to id)));
}
  where
    recvs : (id : ℕ) → id < 16 → (b : Bool) → nat_eq peer id ≡ b → recv_at (slice_set rows peer (record row { recv = Some ticket })) id ≡ option_map carried_signed (last_that (λ x. is_recv_from id (read x)) (es ++ e ∷ []))
    recvs id low true q =
        let same : peer ≡ id = eqb-true peer id q in
        let get : slice_get (slice_set rows peer (record row { recv = Some ticket })) id ≡ Some (record row { recv = Some ticket }) = subst (λ (k : ℕ). slice_get (slice_set rows peer (record row { recv = Some ticket })) k ≡ Some (record row { recv = Some ticket })) same (get_same rows peer (record row { recv = Some ticket }) lt) in
        rw (get, last_one (λ x. is_recv_from id (read x)) es e (is.from id ∙ q)) (ap (λ (t : SignedData). Some t) (sym is.ticket))
    recvs id low false q = rw (get_other rows peer id (record row { recv = Some ticket }) q, last_none (λ x. is_recv_from id (read x)) es e (is.from id ∙ q)) (h.recv id low)

    sents : (id : ℕ) → id < 16 → (b : Bool) → nat_eq peer id ≡ b → sent_at (slice_set rows peer (record row { recv = Some ticket })) id ≡ (last_that (λ x. is_send_to id (read x)) es >>= sent_of)
    sents id low true q =
        let same : peer ≡ id = eqb-true peer id q in
        let get : slice_get (slice_set rows peer (record row { recv = Some ticket })) id ≡ Some (record row { recv = Some ticket }) = subst (λ (k : ℕ). slice_get (slice_set rows peer (record row { recv = Some ticket })) k ≡ Some (record row { recv = Some ticket })) same (get_same rows peer (record row { recv = Some ticket }) lt) in
        let was : slice_get rows id ≡ Some row = subst (λ (k : ℕ). slice_get rows k ≡ Some row) same at in
        ap (λ (x : Option KeptRow). x >>= λ r. option_map sent_view r.sent) get ∙ sym (ap (λ (x : Option KeptRow). x >>= λ r. option_map sent_view r.sent) was) ∙ h.sent id low
    sents id low false q = ap (λ (x : Option KeptRow). x >>= λ r. option_map sent_view r.sent) (get_other rows peer id (record row { recv = Some ticket }) q) ∙ h.sent id low

-- a peer without a row
pub recv_passed : (rows : List KeptRow) (es : List CarriedData) (e : CarriedData) (peer : ℕ) (t : SignedData) → 16 ≤ peer → IsRecv e peer t → AreKept rows es → AreKept rows (es ++ e ∷ [])
recv_passed rows es e peer t high is h = record {
  recv = λ id low. h.recv id low ∙ ap (λ (x : Option CarriedData). option_map carried_signed x) (sym (last_none (λ x. is_recv_from id (read x)) es e (is.from id ∙ apart id low (nat_eq peer id) refl)));
  sent = λ id low. h.sent id low ∙ ap (λ (x : Option CarriedData). x >>= sent_of) (sym (last_none (λ x. is_send_to id (read x)) es e (is.to id)));
}
  where
    apart : (id : ℕ) → id < 16 → (b : Bool) → nat_eq peer id ≡ b → nat_eq peer id ≡ false
    apart id low true q = let same : peer ≡ id = eqb-true peer id q in absurd (omega (arith, same, low, high))
    apart id low false q = q

-- ---- a message that was sent

pub record IsSend (e : CarriedData) (peer number : ℕ) (t : SignedData) : Type 0 where
  pub from : (id : ℕ) → is_recv_from id (read e) ≡ false
  pub to : (id : ℕ) → is_send_to id (read e) ≡ nat_eq peer id
  pub sent : sent_of e ≡ Some (record { ticket = t; number = number })

pub is_send : (e : CarriedData) (peer number count : ℕ) (payload : List ℕ) (t : SignedData) → read e ≡ Some (send count peer number payload) → carried_signed e ≡ t → IsSend e peer number t
is_send e peer number count payload t r same = record {
  from = λ id. rw r refl;
  to = λ id. rw r refl;
  sent = rw r (ap (λ (x : SignedData). Some (record { ticket = x; number = number })) same);
}

pub sent_kept : (rows : List KeptRow) (es : List CarriedData) (e : CarriedData) (peer : ℕ) (row : KeptRow) (s : KeptSend) → peer < length rows → slice_get rows peer ≡ Some row → IsSend e peer s.number (ticket_view s.ticket) → AreKept rows es → AreKept (slice_set rows peer (record row { sent = Some s })) (es ++ e ∷ [])
sent_kept rows es e peer row s lt at is h = record {
  recv = λ id low. recvs id low (nat_eq peer id) refl ∙ ap (λ (x : Option CarriedData). option_map carried_signed x) (sym (last_none (λ x. is_recv_from id (read x)) es e (is.from id)));
  sent = λ id low. sents id low (nat_eq peer id) refl;
}
  where
    sents : (id : ℕ) → id < 16 → (b : Bool) → nat_eq peer id ≡ b → sent_at (slice_set rows peer (record row { sent = Some s })) id ≡ (last_that (λ x. is_send_to id (read x)) (es ++ e ∷ []) >>= sent_of)
    sents id low true q =
        let same : peer ≡ id = eqb-true peer id q in
        let get : slice_get (slice_set rows peer (record row { sent = Some s })) id ≡ Some (record row { sent = Some s }) = subst (λ (k : ℕ). slice_get (slice_set rows peer (record row { sent = Some s })) k ≡ Some (record row { sent = Some s })) same (get_same rows peer (record row { sent = Some s }) lt) in
        rw (get, last_one (λ x. is_send_to id (read x)) es e (is.to id ∙ q)) (sym is.sent)
    sents id low false q = rw (get_other rows peer id (record row { sent = Some s }) q, last_none (λ x. is_send_to id (read x)) es e (is.to id ∙ q)) (h.sent id low)

    recvs : (id : ℕ) → id < 16 → (b : Bool) → nat_eq peer id ≡ b → recv_at (slice_set rows peer (record row { sent = Some s })) id ≡ option_map carried_signed (last_that (λ x. is_recv_from id (read x)) es)
    recvs id low true q =
        let same : peer ≡ id = eqb-true peer id q in
        let get : slice_get (slice_set rows peer (record row { sent = Some s })) id ≡ Some (record row { sent = Some s }) = subst (λ (k : ℕ). slice_get (slice_set rows peer (record row { sent = Some s })) k ≡ Some (record row { sent = Some s })) same (get_same rows peer (record row { sent = Some s }) lt) in
        let was : slice_get rows id ≡ Some row = subst (λ (k : ℕ). slice_get rows k ≡ Some row) same at in
        ap (λ (x : Option KeptRow). x >>= λ r. option_map ticket_view r.recv) get ∙ sym (ap (λ (x : Option KeptRow). x >>= λ r. option_map ticket_view r.recv) was) ∙ h.recv id low
    recvs id low false q = ap (λ (x : Option KeptRow). x >>= λ r. option_map ticket_view r.recv) (get_other rows peer id (record row { sent = Some s }) q) ∙ h.recv id low

pub sent_passed : (rows : List KeptRow) (es : List CarriedData) (e : CarriedData) (peer number : ℕ) (t : SignedData) → 16 ≤ peer → IsSend e peer number t → AreKept rows es → AreKept rows (es ++ e ∷ [])
sent_passed rows es e peer number t high is h = record {
  recv = λ id low. h.recv id low ∙ ap (λ (x : Option CarriedData). option_map carried_signed x) (sym (last_none (λ x. is_recv_from id (read x)) es e (is.from id)));
  sent = λ id low. h.sent id low ∙ ap (λ (x : Option CarriedData). x >>= sent_of) (sym (last_none (λ x. is_send_to id (read x)) es e (is.to id ∙ apart id low (nat_eq peer id) refl)));
}
  where
    apart : (id : ℕ) → id < 16 → (b : Bool) → nat_eq peer id ≡ b → nat_eq peer id ≡ false
    apart id low true q = let same : peer ≡ id = eqb-true peer id q in absurd (omega (arith, same, low, high))
    apart id low false q = q

-- ---- a record that is saved

pub frames-append : (p : StandingData) (a b : List Part) → signed_frames p (a ++ b) ≡ signed_frames p a ++ signed_frames (fold behind p a) b
frames-append p [] b = refl
frames-append p (x ∷ a) b = ap (λ (es : List CarriedData). signed_frame p x ++ es) (frames-append (behind p x) a b) ∙ sym (append_assoc (signed_frame p x) (signed_frames (behind p x) a) (signed_frames (fold behind (behind p x) a) b))

pub signed_more : (j : JournalData) (r : List Part) → signed_entries (with_record j r) ≡ signed_entries j ++ signed_frames (standing j) r
unfolding standing
signed_more j r = ap (λ (ps : List Part). j.header.carried ++ signed_frames (start j.header) ps) (record-parts j r) ∙ ap (λ (es : List CarriedData). j.header.carried ++ es) (frames-append (start j.header) (parts j) r) ∙ sym (append_assoc j.header.carried (signed_frames (start j.header) (parts j)) (signed_frames (standing j) r))

pub quiet_frames : (p : StandingData) (b : List Part) → AreQuiet b → signed_frames p b ≡ []
quiet_frames p [] h = refl
quiet_frames p (entry f ∷ b) h =
    let one : signed_frame p (entry f) ≡ [] = rw h.0 refl in
    ap (λ (es : List CarriedData). es ++ signed_frames (behind p (entry f)) b) one ∙ quiet_frames (behind p (entry f)) b h.4
quiet_frames p (seal ∷ b) h = absurd h
quiet_frames p (keep k ∷ b) h = quiet_frames p b h

-- a record that signs nothing leaves what is kept
pub kept_quiet : (rows : List KeptRow) (j : JournalData) (b : List Part) → signed_frames (standing j) b ≡ [] → AreKeptOf rows j → AreKeptOf rows (with_record j b)
kept_quiet rows j b none h = subst (λ (es : List CarriedData). AreKept rows es) (sym (signed_more j b ∙ ap (λ (es : List CarriedData). signed_entries j ++ es) none ∙ append-nil (signed_entries j))) h

-- a record with one signed entry
pub kept_more : (rows : List KeptRow) (j : JournalData) (b : List Part) (e : CarriedData) → signed_frames (standing j) b ≡ e ∷ [] → AreKept rows (signed_entries j ++ e ∷ []) → AreKeptOf rows (with_record j b)
kept_more rows j b e one h = subst (λ (es : List CarriedData). AreKept rows es) (sym (signed_more j b ∙ ap (λ (es : List CarriedData). signed_entries j ++ es) one)) h

-- ---- in the code's words

-- the row at a place
pub get_or_row : (rows : List KeptRow) (i : ℕ) (d : KeptRow) → i < length rows → slice_get rows i ≡ Some (slice_index_or rows i d)
get_or_row [] i d h = absurd (omega (arith, h))
get_or_row (x ∷ rows) zero d h = refl
get_or_row (x ∷ rows) (suc i) d h = get_or_row rows i d (omega (arith, h))

-- a peer with a row has an id below 16
pub low_id : (own low : ℕ) (peers : List Peer) (id : ℕ) → are_rows own low peers ≡ true → knows peers id ≡ true → id < 16
low_id own low [] id e k = absurd cc
low_id own low (p ∷ ps) id e k =
    let a = and_parts _ (are_rows own (p.id + 1) ps) e in
    go a.0 (nat_eq p.id id) refl k (λ m. low_id own (p.id + 1) ps id a.1 m)
  where
    go : (nat_le low p.id && is_row own p) ≡ true → (b : Bool) → nat_eq p.id id ≡ b → knows (p ∷ ps) id ≡ true → (knows ps id ≡ true → id < 16) → id < 16
    go a true q k more =
        let b = and_parts (nat_le low p.id) (is_row own p) a in
        let r = row_parts own p b.1 in
        subst (λ (n : ℕ). n < 16) (eqb-true p.id id q) (ltb-true p.id 16 r.id)
    go a false q k more = more (rw q at k)

some_is : (w : Option Peer) (p : Peer) → w ≡ Some p → IsSome w
some_is None p e = absurd cc
some_is (Some q) p e = refl

pub row_low : (own : ℕ) (peers : List Peer) (id : ℕ) (p : Peer) → are_rows own 0 peers ≡ true → row_of peers id ≡ Some p → id < 16
row_low own peers id p e r = low_id own 0 peers id e (found_known peers id (some_is (row_of peers id) p r))

-- ---- a message that isn't acknowledged

pub with_none : (w : Option CarriedData) (n : ℕ) → (w >>= sent_of) ≡ None → with_number n w ≡ None
with_none None n h = refl
with_none (Some e) n h = go (number_in (read e)) refl h
  where
    go : (m : Option ℕ) → number_in (read e) ≡ m → option_map {U = SentData} (λ k. record { ticket = carried_signed e; number = k }) m ≡ None → with_number n (Some e) ≡ None
    go None q h = rw q refl
    go (Some k) q h = absurd cc

pub with_same : (w : Option CarriedData) (n m : ℕ) (t : SignedData) → (w >>= sent_of) ≡ Some (record { ticket = t; number = m }) → m ≡ n → option_map carried_signed (with_number n w) ≡ Some t
with_same None n m t h same = absurd cc
with_same (Some e) n m t h same = go (number_in (read e)) refl h
  where
    go : (w : Option ℕ) → number_in (read e) ≡ w → option_map {U = SentData} (λ k. record { ticket = carried_signed e; number = k }) w ≡ Some (record { ticket = t; number = m }) → option_map carried_signed (with_number n (Some e)) ≡ Some t
    go None q h = absurd cc
    go (Some k) q h =
        let d : record { ticket = carried_signed e; number = k } ≡ record { ticket = t; number = m } = some_same h in
        let number : k ≡ m = ap (λ (x : SentData). x.number) d in
        let yes : nat_eq k n ≡ true = eq-eqb k n (number ∙ same) in
        rw (q, yes) (ap (λ (x : SentData). Some x.ticket) d)

pub with_other : (w : Option CarriedData) (n m : ℕ) (t : SignedData) → (w >>= sent_of) ≡ Some (record { ticket = t; number = m }) → (m ≡ n → ⊥) → with_number n w ≡ None
with_other None n m t h other = absurd cc
with_other (Some e) n m t h other = go (number_in (read e)) refl h
  where
    go : (w : Option ℕ) → number_in (read e) ≡ w → option_map {U = SentData} (λ k. record { ticket = carried_signed e; number = k }) w ≡ Some (record { ticket = t; number = m }) → with_number n (Some e) ≡ None
    go None q h = absurd cc
    go (Some k) q h =
        let d : record { ticket = carried_signed e; number = k } ≡ record { ticket = t; number = m } = some_same h in
        let number : k ≡ m = ap (λ (x : SentData). x.number) d in
        let no_ : nat_eq k n ≡ false = ne_eqb k n (λ x. other (sym number ∙ x)) in
        rw (q, no_) refl

-- what is kept of the last message to a peer with a row, where it isn't acknowledged
pub out_is : (j : JournalData) (s : State) (peer : ℕ) (row : Peer) → row_of s.devices.peers peer ≡ Some row → (row.sent ≡ row.acked → ⊥) → outstanding j s peer ≡ with_number row.sent (last_send j peer)
out_is j s peer row e q = rw (e, ne_eqb row.sent row.acked q) refl

-- ---- low leaves

abbrev IsLowRow : ℕ → KeptRow → Type 0
IsLowRow most row = IfSome row.recv (λ t. (ticket_view t).leaf < most) × IfSome row.sent (λ d. (ticket_view d.ticket).leaf < most)

pub low_none : (most : ℕ) (rows : List KeptRow) → rows ≡ replicate 16 empty → AreLow most rows
low_none most rows e = record {
  recv = λ id. subst (λ (o : Option SignedData). IfSome o (λ t. t.leaf < most)) (sym (ap (λ (r : List KeptRow). recv_at r id) e ∙ recv_none 16 id)) tt;
  sent = λ id. subst (λ (o : Option SentData). IfSome o (λ d. d.ticket.leaf < most)) (sym (ap (λ (r : List KeptRow). sent_at r id) e ∙ sent_none 16 id)) tt;
}

pub low_recv : (most : ℕ) (rows : List KeptRow) (peer : ℕ) (row : KeptRow) (ticket : Ticket) → peer < length rows → slice_get rows peer ≡ Some row → (ticket_view ticket).leaf < most → AreLow most rows → AreLow most (slice_set rows peer (record row { recv = Some ticket }))
low_recv most rows peer row ticket lt at low h = record { recv = λ id. recvs id (nat_eq peer id) refl; sent = λ id. sents id (nat_eq peer id) refl }
  where
    new : KeptRow
    new = record row { recv = Some ticket }

    recvs : (id : ℕ) → (b : Bool) → nat_eq peer id ≡ b → IfSome (recv_at (slice_set rows peer new) id) (λ t. t.leaf < most)
    recvs id true q =
        let same : peer ≡ id = eqb-true peer id q in
        let get : slice_get (slice_set rows peer new) id ≡ Some new = subst (λ (k : ℕ). slice_get (slice_set rows peer new) k ≡ Some new) same (get_same rows peer new lt) in
        rw get low
    recvs id false q = rw (get_other rows peer id new q) (h.recv id)

    sents : (id : ℕ) → (b : Bool) → nat_eq peer id ≡ b → IfSome (sent_at (slice_set rows peer new) id) (λ d. d.ticket.leaf < most)
    sents id true q =
        let same : peer ≡ id = eqb-true peer id q in
        let get : slice_get (slice_set rows peer new) id ≡ Some new = subst (λ (k : ℕ). slice_get (slice_set rows peer new) k ≡ Some new) same (get_same rows peer new lt) in
        let was : slice_get rows id ≡ Some row = subst (λ (k : ℕ). slice_get rows k ≡ Some row) same at in
        rw get (rw was at (h.sent id))
    sents id false q = rw (get_other rows peer id new q) (h.sent id)

pub low_sent : (most : ℕ) (rows : List KeptRow) (peer : ℕ) (row : KeptRow) (s : KeptSend) → peer < length rows → slice_get rows peer ≡ Some row → (ticket_view s.ticket).leaf < most → AreLow most rows → AreLow most (slice_set rows peer (record row { sent = Some s }))
low_sent most rows peer row s lt at low h = record { recv = λ id. recvs id (nat_eq peer id) refl; sent = λ id. sents id (nat_eq peer id) refl }
  where
    new : KeptRow
    new = record row { sent = Some s }

    sents : (id : ℕ) → (b : Bool) → nat_eq peer id ≡ b → IfSome (sent_at (slice_set rows peer new) id) (λ d. d.ticket.leaf < most)
    sents id true q =
        let same : peer ≡ id = eqb-true peer id q in
        let get : slice_get (slice_set rows peer new) id ≡ Some new = subst (λ (k : ℕ). slice_get (slice_set rows peer new) k ≡ Some new) same (get_same rows peer new lt) in
        rw get low
    sents id false q = rw (get_other rows peer id new q) (h.sent id)

    recvs : (id : ℕ) → (b : Bool) → nat_eq peer id ≡ b → IfSome (recv_at (slice_set rows peer new) id) (λ t. t.leaf < most)
    recvs id true q =
        let same : peer ≡ id = eqb-true peer id q in
        let get : slice_get (slice_set rows peer new) id ≡ Some new = subst (λ (k : ℕ). slice_get (slice_set rows peer new) k ≡ Some new) same (get_same rows peer new lt) in
        let was : slice_get rows id ≡ Some row = subst (λ (k : ℕ). slice_get rows k ≡ Some row) same at in
        rw get (rw was at (h.recv id))
    recvs id false q = rw (get_other rows peer id new q) (h.recv id)

pub low_given : {A : Type 0} (view : A → SignedData) (most : ℕ) (o : Option A) (w : Option SignedData) → option_map view o ≡ w → IfSome w (λ t. t.leaf < most) → IfSome o (λ t. (view t).leaf < most)
low_given view most None w e h = tt
low_given view most (Some t) w e h = subst (λ (x : Option SignedData). IfSome x (λ y. y.leaf < most)) (sym e) h
