-- How packets end: those that are released again, and messages that come in.
use Rattle.std.proofs.Common.{◌≡◌, ℕ, ◌≤◌, true, List, [], ◌∷◌, length, take, Option, Some, None, Result, Ok, Err, refl, sym, ap, subst, ◌∙◌, arith, inl}
use Rattle.std.specs.Prelude.{IfErr, IfOk, IfSome, min, option_map, unwrap_or}
use Rattle.std.proofs.lemmas.Bool.{eq-eqb, eqb-true}
use Rattle.std.proofs.lemmas.List.{take_all}
use Rattle.avm_num.specs.Bytes.{IsBytes}
use Rattle.avm_model.specs.Content.{ContentData, boot, snap, conin, clock, recv, acked, out, send, halt}
use Rattle.avm_model.specs.Device.{row_of}
use Rattle.avm_model.specs.Frame.{FrameData}
use Rattle.avm_model.specs.Keys.{KeyData}
use Rattle.avm_model.specs.Machine.{State}
use Rattle.avm_model.specs.Offer.{Offer, refuse_packet}
use Rattle.avm_model.specs.Packet.{ack_bytes, data_at}
use Rattle.avm_model.specs.declared.NotTaken.{NotTaken}
use Rattle.avm_outside.specs.Outlet.{Piece, packet}
use Rattle.avm_outside.specs.Outside.{BothTold, Rises}
use Rattle.journal_model.specs.Header.{CarriedData}
use Rattle.journal_model.specs.Journal.{Is, JournalData, ended}
use Rattle.journal_model.specs.Part.{Part}
use Rattle.journal_model.specs.Standing.{SignedData}
use Rattle.jrnl_part.specs.Carriage.{carried_signed}
use Rattle.jrnl_store.specs.Kept.{Kept}
use Rattle.jrnl_store.specs.Own.{CountsFaults, IsAt, IsOwn}
use Rattle.jrnl_store.specs.declared.fault.Stop.{Stop}
use Rattle.jrnl_store.specs.declared.fault.Stop.TheVariants.{LeavesSpent, Full, DiskFault, OutletFault, FeedFault}
use Rattle.jrnl_store.proofs.Commits.{own_at, shut_stands}
use Rattle.jrnl_store.specs.Items.{disk_fault, frame_numbered, items_in}
use Rattle.jrnl_store.specs.declared.fault.StoreFault.{StoreFault}
use Rattle.record_packets.proofs.Frames.{ticket_frame}
use Rattle.log_entry.proofs.Contents.{content_read}
use Rattle.log_entry.proofs.Lengths.{data_limit}
use Rattle.record_batch.specs.Batch.{BatchData}
use Rattle.record_kept.specs.Again.{IsTicketOf}
use Rattle.record_kept.proofs.Resends.{found, last_is}
use Rattle.record_model.specs.Recording.{Act, Effect, Recording, SendAgain, TakeIn, dropped_for, sent_again}
use Rattle.record_model.specs.Released.{Sender, again, again_to, content_pieces, is_recv_from, is_send_to, last_recv, outstanding, packet_of, read, repeated_from, resend_refusal, sender_of, signed_entries}
use Rattle.record_model.specs.Turn.{answer_for}
use Rattle.record_parts.specs.Ends.{EndsAs, Faults, turn_of}
use Rattle.record_parts.specs.Outs.{packet_by}
use Rattle.record_parts.specs.declared.answers.Turn.{Turn}
use Rattle.record_parts.specs.declared.answers.Turn.TheVariants.{Dropped, Resent}
use Rattle.record_parts.proofs.Acting.{again_opening, drop_opening}
use Rattle.record_parts.proofs.Ends.{Opening, ends_open, ends_open_cut, rec}
use Rattle.record_press.proofs.Making.{recv_few, send_few}
use Rattle.record_packets.specs.Again.{AgainAs, packet_as}
use Rattle.record_packets.specs.declared.again.Kind.{Kind}
use Rattle.record_turn.specs.Keeping.{Aside}
use Rattle.record_turn.specs.Leaves.{Acted, Leaves}

-- ---- reading

-- a disk that was only read is still the journal's own
own_less : (k : Kept) (images after : List ℕ → Type 0) (was : List ℕ) (j : JournalData) → ((c : List ℕ) → after c → images c) → IsOwn k images was j → IsOwn k after was j
own_less k images after was j less o = record {
  front = o.front;
  place = o.place;
  last = o.last;
  stands = o.stands;
  begun = o.begun;
  keeps = o.keeps;
  base = o.base;
  read = o.read;
  left = λ c h. o.left c (less c h);
  shut = o.shut;
  left_shut = λ run c h. o.left_shut run c (less c h);
}

-- what reading leaves, where some things hold of the journal and of what is kept
pub told_read : {D : Type 0} (moment : D → ℕ) (left_since : D → ℕ → List ℕ → Type 0) (seen : D → Option (List ℕ)) (images : D → List ℕ → Type 0) → ((d : D) (c : List ℕ) → left_since d (moment d) c → images d c)
    → (old new : D) (k n : Kept) → n ≡ k → (Q : JournalData → Type 0) (P : JournalData → JournalData → List Part → Type 0) → k.stop ≡ None → seen new ≡ seen old → ((c : List ℕ) → images new c → images old c) → moment old ≤ moment new
    → ((t : ℕ) (c : List ℕ) → t ≤ moment old → left_since new t c → left_since old t c)
    → ((j : JournalData) (was : List ℕ) → seen old ≡ Some was → IsOwn k (images old) was j → Q j → (flight : List Part) × P j j flight)
    → BothTold (seen old) (seen new) (λ was now. (j : JournalData) → IsOwn k (images old) was j → Q j → Leaves moment left_since old new n (images new) now j (P j))
told_read {D} moment left_since seen images only old new k n is_kept Q P run same less later moments h = subst (λ (x : Kept). BothTold (seen old) (seen new) (λ was now. (j : JournalData) → IsOwn k (images old) was j → Q j → Leaves moment left_since old new x (images new) now j (P j))) (sym is_kept) (go (seen old) refl (seen new) same)
  where
    go : (a : Option (List ℕ)) → seen old ≡ a → (b : Option (List ℕ)) → b ≡ seen old → BothTold a b (λ was now. (j : JournalData) → IsOwn k (images old) was j → Q j → Leaves moment left_since old new k (images new) now j (P j))
    go None p None q = tt
    go None p (Some now) q = absurd (let z : Some now ≡ None = q ∙ p in cc)
    go (Some was) p None q = absurd (let z : None ≡ Some was = q ∙ p in cc)
    go (Some was) p (Some now) q = λ j o kept.
        let r = h j was p o kept in
        let is : was ≡ now = some_same (sym (q ∙ p)) in
        record {
          next = j;
          flight = r.0;
          holds = record {
            own = subst (λ (x : List ℕ). IsOwn k (images new) x j) is (own_less k (images old) (images new) was j less o);
            moments = record {
              later = later;
              each = λ c left. inl (shut_stands j o.front c o.stands o.begun (o.left_shut run c (only old c (moments (moment old) c (omega arith) left))));
              before = λ t c le left. inl (moments t c le left);
            };
          };
          is = r.1;
        }
      where
        some_same : {a b : List ℕ} → Some a ≡ Some b → a ≡ b
        some_same e = cc

-- ---- the packet of an entry

pub same_packet : (who : Sender) (j : JournalData) (t : SignedData) (e : CarriedData) (content : List ℕ) → IsTicketOf j t e → content ≡ e.frame.content → packet_by who t content ≡ packet_of who e
same_packet who j t e content is same = ap (packet_by who t) same ∙ ap (λ (x : SignedData). packet_by who x e.frame.content) (sym is.ticket)

-- the content that is shown of an entry that was sought
pub shown : (x : Option FrameData) (f d : FrameData) (g : FrameData) → g ≡ unwrap_or x d → x ≡ Some f → g.content ≡ f.content
shown x f d g is e = ap (λ (y : FrameData). y.content) (is ∙ ap (λ (o : Option FrameData). unwrap_or o d) e)

-- how long the content of a message is
pub few_send : (peer : ℕ) (e : CarriedData) (c : Option ContentData) → read e ≡ c → is_send_to peer c ≡ true → IsBytes e.frame.content → length e.frame.content ≤ 10429
few_send peer e (Some (send count to number payload)) is h bytes =
    let r = content_read e.frame.kind e.frame.content (send count to number payload) bytes is in
    send_few e.frame.content count to number payload (sym r.2) r.0.payload
few_send peer e None is h bytes = absurd cc
few_send peer e (Some (boot count root)) is h bytes = absurd cc
few_send peer e (Some (snap count root)) is h bytes = absurd cc
few_send peer e (Some (conin count b)) is h bytes = absurd cc
few_send peer e (Some (clock count value)) is h bytes = absurd cc
few_send peer e (Some (recv count inner)) is h bytes = absurd cc
few_send peer e (Some (acked count inner)) is h bytes = absurd cc
few_send peer e (Some (out count b)) is h bytes = absurd cc
few_send peer e (Some (halt count cause value)) is h bytes = absurd cc

pub few_recv : (peer : ℕ) (e : CarriedData) (c : Option ContentData) → read e ≡ c → is_recv_from peer c ≡ true → IsBytes e.frame.content → length e.frame.content ≤ 10429
few_recv peer e (Some (recv count inner)) is h bytes =
    let r = content_read e.frame.kind e.frame.content (recv count inner) bytes is in
    recv_few e.frame.content count inner (sym r.2) (data_limit inner r.0.packet)
few_recv peer e None is h bytes = absurd cc
few_recv peer e (Some (boot count root)) is h bytes = absurd cc
few_recv peer e (Some (snap count root)) is h bytes = absurd cc
few_recv peer e (Some (conin count b)) is h bytes = absurd cc
few_recv peer e (Some (clock count value)) is h bytes = absurd cc
few_recv peer e (Some (send count to number payload)) is h bytes = absurd cc
few_recv peer e (Some (acked count inner)) is h bytes = absurd cc
few_recv peer e (Some (out count b)) is h bytes = absurd cc
few_recv peer e (Some (halt count cause value)) is h bytes = absurd cc

-- ---- acts that release again

module _ {H : Type 0} (adding : Piece → H → H) (tearing : Piece → H → H → Type 0) (who : Sender) (aside : Aside) (j : JournalData) (b : List Part) (s : State) (f : Faults) (old new : H) where
  by_again : {T : Type 0} (e : Effect) (ps : List Piece) (x : T) → Opening e (rec j b s) ps → AgainAs adding tearing ps f old new (Ok x) → (turn : Turn) → EndsAs adding tearing who e (rec j b s) f old new (Ok turn)
  by_again e ps x o h turn = ends_open adding tearing who e (rec j b s) f old new ps turn o h

  by_stop : (T : Type 0) (e : Effect) (ps : List Piece) (stop : Stop) → Opening e (rec j b s) ps → AgainAs {T = T} adding tearing ps f old new (Err stop) → EndsAs {T = Turn} adding tearing who e (rec j b s) f old new (Err stop)
  by_stop T e ps LeavesSpent o h = absurd h
  by_stop T e ps Full o h = absurd h
  by_stop T e ps DiskFault o h = (o.recording, h.0, h.1)
  by_stop T e ps OutletFault o h = ends_open_cut Turn adding tearing who e (rec j b s) f old new ps o h.0 h.1
  by_stop T e ps FeedFault o h = absurd h

  again_acted : (peer : ℕ) (result : Result Turn Stop) → EndsAs adding tearing who (sent_again who (rec j b s) peer) (rec j b s) f old new result
      → IfOk result (λ turn. turn ≡ turn_of (answer_for 0 (SendAgain peer) (resend_refusal (row_of s.devices.peers peer) (outstanding j s peer)))) → Acted adding tearing who 0 (SendAgain peer) (rec j b s) aside aside b s f old new result j b
  again_acted peer result h answer = record { acts = record { at = s; moved_to = refl; pages = []; effect = sent_again who (rec j b s) peer; effect_is = refl; ends = h; answer = answer }; in_flight = refl; tickets = λ g. g; keeps = λ k. k }

  pub resent : {T : Type 0} (peer : ℕ) (ps : List Piece) (x : T) → again who (outstanding j s peer) ≡ ps → resend_refusal (row_of s.devices.peers peer) (outstanding j s peer) ≡ None → AgainAs adding tearing ps f old new (Ok x) → Acted adding tearing who 0 (SendAgain peer) (rec j b s) aside aside b s f old new (Ok Resent) j b
  resent peer ps x e known h = again_acted peer (Ok Resent) (by_again (sent_again who (rec j b s) peer) ps x (again_opening who j b s peer ps e) h Resent) (rw known refl)

  pub unresent : (T : Type 0) (peer : ℕ) (ps : List Piece) (stop : Stop) → again who (outstanding j s peer) ≡ ps → AgainAs {T = T} adding tearing ps f old new (Err stop) → Acted adding tearing who 0 (SendAgain peer) (rec j b s) aside aside b s f old new (Err stop) j b
  unresent T peer ps stop e h = again_acted peer (Err stop) (by_stop T (sent_again who (rec j b s) peer) ps stop (again_opening who j b s peer ps e) h) tt

  pub unsent : (peer : ℕ) (why : NotTaken) → new ≡ old → outstanding j s peer ≡ None → resend_refusal (row_of s.devices.peers peer) None ≡ Some why → Acted adding tearing who 0 (SendAgain peer) (rec j b s) aside aside b s f old new (Ok (Dropped why)) j b
  unsent peer why still none is =
      again_acted peer (Ok (Dropped why)) (by_again {T = Unit {0}} (sent_again who (rec j b s) peer) [] (tt {0}) (again_opening who j b s peer [] (ap (again who) none)) still (Dropped why))
      (let z : resend_refusal (row_of s.devices.peers peer) (outstanding j s peer) ≡ Some why = ap (resend_refusal (row_of s.devices.peers peer)) none ∙ is in rw z refl)

  drop_acted : (o : Option Offer) (why : NotTaken) (result : Result Turn Stop) → refuse_packet s o ≡ Some why → EndsAs adding tearing who (dropped_for who (rec j b s) o why) (rec j b s) f old new result → IfOk result (λ turn. turn ≡ Dropped why) → Acted adding tearing who 0 (TakeIn o) (rec j b s) aside aside b s f old new result j b
  drop_acted o why result some h answer = record { acts = record { at = s; moved_to = refl; pages = []; effect = dropped_for who (rec j b s) o why; effect_is = rw some refl; ends = h; answer = answer }; in_flight = refl; tickets = λ g. g; keeps = (λ no. absurd cc, λ k. k) }

  pub dropped_again : {T : Type 0} (o : Option Offer) (why : NotTaken) (ps : List Piece) (x : T) → refuse_packet s o ≡ Some why → again_to who j (repeated_from why o) ≡ ps → AgainAs adding tearing ps f old new (Ok x) → Acted adding tearing who 0 (TakeIn o) (rec j b s) aside aside b s f old new (Ok (Dropped why)) j b
  dropped_again o why ps x some e h = drop_acted o why (Ok (Dropped why)) some (by_again (dropped_for who (rec j b s) o why) ps x (drop_opening who j b s o why ps e) h (Dropped why)) refl

  pub undropped : (T : Type 0) (o : Option Offer) (why : NotTaken) (ps : List Piece) (stop : Stop) → refuse_packet s o ≡ Some why → again_to who j (repeated_from why o) ≡ ps → AgainAs {T = T} adding tearing ps f old new (Err stop) → Acted adding tearing who 0 (TakeIn o) (rec j b s) aside aside b s f old new (Err stop) j b
  undropped T o why ps stop some e h = drop_acted o why (Err stop) some (by_stop T (dropped_for who (rec j b s) o why) ps stop (drop_opening who j b s o why ps e) h) tt

-- ---- an entry that was sought

pub some_all : {A : Type 0} (o : Option A) (P : A → Type 0) → ((x : A) → P x) → IfSome o P
some_all None P f = tt
some_all (Some x) P f = f x

pub some_with : {A : Type 0} (o : Option A) (P Q : A → Type 0) → IfSome o P → ((x : A) → P x → Q x) → IfSome o Q
some_with None P Q h f = tt
some_with (Some x) P Q h f = f x h

-- its whole content is released again
pub whole_content : (k : Kept) (images : List ℕ → Type 0) (was : List ℕ) (j : JournalData) (t : SignedData) (e : CarriedData) (x : Option FrameData) (g d : FrameData) (content : List ℕ) (n : ℕ) → k.stop ≡ None → IsOwn k images was j → IsTicketOf j t e → (IsBytes e.frame.content → length e.frame.content ≤ 10429)
    → (IsAt k was j → ended j ≡ Is j → x ≡ frame_numbered t.seq (items_in j)) → g ≡ unwrap_or x d → content ≡ g.content → IsBytes content → n ≡ min (length content) 10429 → take n content ≡ e.frame.content
whole_content k images was j t e x g d content n run own is few sought shows same bytes size =
    let found : x ≡ Some e.frame = sought (own_at k images was j own) own.begun ∙ ticket_frame k images was j t e run own is in
    let eq : content ≡ e.frame.content = same ∙ shown x e.frame d g shows found in
    let le : length content ≤ 10429 = subst (λ (c : List ℕ). length c ≤ 10429) (sym eq) (few (subst IsBytes eq bytes)) in
    take_all n content (omega (arith, size, le)) ∙ eq

-- seeking an entry fails only where the disk does
pub disk_rises : {T : Type 0} (r : Result T StoreFault) (e : StoreFault) (before now : ℕ) → r ≡ Err e → IfErr r (λ x. x ≡ disk_fault) → CountsFaults before now r → Rises before now
disk_rises (Ok x) e before now is cause counts = absurd cc
disk_rises {T} (Err x) e before now is cause counts = subst (λ (y : StoreFault). CountsFaults {T = T} before now (Err y)) cause counts

-- how long the content of an entry is whose packet is released
pub few_packet : (who : Sender) (e : CarriedData) (c : Option ContentData) (peer : ℕ) (made : List ℕ) → read e ≡ c → content_pieces who e c ≡ packet peer made ∷ [] → IsBytes e.frame.content → length e.frame.content ≤ 10429
few_packet who e (Some (send count to number payload)) peer made is h bytes = few_send to e (Some (send count to number payload)) is (eq-eqb to to refl) bytes
few_packet who e (Some (recv count inner)) peer made is h bytes = few_recv (sender_of (data_at inner)) e (Some (recv count inner)) is (eq-eqb (sender_of (data_at inner)) (sender_of (data_at inner)) refl) bytes
few_packet who e None peer made is h bytes = absurd cc
few_packet who e (Some (boot count root)) peer made is h bytes = absurd cc
few_packet who e (Some (snap count root)) peer made is h bytes = absurd cc
few_packet who e (Some (conin count b)) peer made is h bytes = absurd cc
few_packet who e (Some (clock count value)) peer made is h bytes = absurd cc
few_packet who e (Some (acked count inner)) peer made is h bytes = absurd cc
few_packet who e (Some (out count b)) peer made is h bytes = absurd cc
few_packet who e (Some (halt count cause value)) peer made is h bytes = absurd cc

pub some_at : {A : Type 0} (o : Option A) (x : A) (P : A → Type 0) → o ≡ Some x → IfSome o P → P x
some_at None x P e h = absurd cc
some_at (Some y) x P e h = let same : y ≡ x = cc in subst P same h

-- a batch that was left as it is
pub acted_left : {H : Type 0} (adding : Piece → H → H) (tearing : Piece → H → H → Type 0) (who : Sender) (act : Act) (before : Recording) (aside : Aside) (b c : BatchData) (s : State) (f : Faults) (old new : H) (result : Result Turn Stop) (next : JournalData) (flight : List Part) → c ≡ b
    → Acted adding tearing who 0 act before aside aside b.parts s f old new result next flight → Acted adding tearing who 0 act before aside aside c.parts s f old new result next flight
acted_left adding tearing who act before aside b c s f old new result next flight same h = subst (λ (x : BatchData). Acted adding tearing who 0 act before aside aside x.parts s f old new result next flight) (sym same) h

-- ---- the last message from a peer

recv_made : (who : Sender) (e : CarriedData) (peer : ℕ) (c : Option ContentData) → is_recv_from peer c ≡ true → content_pieces who e c ≡ packet peer (ack_bytes (packet_of who e)) ∷ []
recv_made who e peer None h = absurd cc
recv_made who e peer (Some (boot count r)) h = absurd cc
recv_made who e peer (Some (snap count r)) h = absurd cc
recv_made who e peer (Some (conin count bytes)) h = absurd cc
recv_made who e peer (Some (clock count value)) h = absurd cc
recv_made who e peer (Some (recv count inner)) h = ap (λ (k : ℕ). packet k (ack_bytes (packet_of who e)) ∷ []) (eqb-true (sender_of (data_at inner)) peer h)
recv_made who e peer (Some (acked count inner)) h = absurd cc
recv_made who e peer (Some (out count bytes)) h = absurd cc
recv_made who e peer (Some (send count to number payload)) h = absurd cc
recv_made who e peer (Some (halt count cause value)) h = absurd cc

-- the entry that is acknowledged again
pub record IsLast (who : Sender) (j : JournalData) (peer : ℕ) (t : SignedData) : Type 0 where
  pub entry : CarriedData
  pub ticket : IsTicketOf j t entry
  pub pieces : again_to who j (Some peer) ≡ packet peer (ack_bytes (packet_of who entry)) ∷ []
  pub few : IsBytes entry.frame.content → length entry.frame.content ≤ 10429

pub is_last : (who : Sender) (j : JournalData) (peer : ℕ) (t : SignedData) → Some t ≡ option_map carried_signed (last_recv j peer) → IsLast who j peer t
is_last who j peer t h =
    let f = found (last_recv j peer) t h in
    let l = last_is (λ e. is_recv_from peer (read e)) (signed_entries j) f.0 f.1 in
    record {
      entry = f.0;
      ticket = record { among = l.among; ticket = f.2 };
      pieces = ap (λ (w : Option CarriedData). again who w) f.1 ∙ recv_made who f.0 peer (read f.0) l.passes;
      few = few_recv peer f.0 (read f.0) refl l.passes;
    }

-- under the id that the sender has
pub again_own : {H : Type 0} (T : Type 0) (adding : Piece → H → H) (tearing : Piece → H → H → Type 0) (key : KeyData) (own other peer : ℕ) (kind : Kind) (e : CarriedData) (f : Faults) (old new : H) (stop : Stop) → other ≡ own
    → AgainAs {T = T} adding tearing (packet peer (packet_as kind (packet_of (record { key = key; own = other }) e)) ∷ []) f old new (Err stop) → AgainAs {T = T} adding tearing (packet peer (packet_as kind (packet_of (record { key = key; own = own }) e)) ∷ []) f old new (Err stop)
again_own T adding tearing key own other peer kind e f old new stop same h = subst (λ (n : ℕ). AgainAs {T = T} adding tearing (packet peer (packet_as kind (packet_of (record { key = key; own = n }) e)) ∷ []) f old new (Err stop)) same h
