-- The tickets of a journal that is opened.
use Rattle.journal_model.specs.Header.{CarriedData}
use Rattle.jrnl_part.specs.Carriage.{carried_signed}
use Rattle.record_model.specs.Released.{is_recv_from, is_send_to, read, sender_of}
use Rattle.std.proofs.Common.{◌≡◌, ℕ, false, List, [], ◌∷◌, ◌++◌, Option, Some, None, refl, sym, ap, ◌∙◌}
use Rattle.std.specs.Prelude.{option_map}
use Rattle.avm_num.specs.Bytes.{◌>>=◌}
use Rattle.avm_model.specs.Content.{ContentData, boot, snap, conin, clock, recv, acked, out, send, halt, content_at}
use Rattle.avm_model.specs.Frame.{FrameData}
use Rattle.avm_model.specs.Packet.{data_at}
use Rattle.record_kept.specs.Tickets.{sent_of, came_from, sent_to, AreKept}
use Rattle.record_kept.specs.declared.kept.KeptRow.{KeptRow}
use Rattle.record_kept.proofs.Keeping.{last_none}

-- what the content of an entry's frame is
pub read_is : (e : CarriedData) (f : FrameData) (w : Option ContentData) → e.frame ≡ f → w ≡ content_at f.kind f.content → read e ≡ w
read_is e f w same h = ap (λ (g : FrameData). content_at g.kind g.content) same ∙ sym h

-- an entry that is no message changes nothing
pub passed : (rows : List KeptRow) (es : List CarriedData) (e : CarriedData) → ((id : ℕ) → is_recv_from id (read e) ≡ false) → ((id : ℕ) → is_send_to id (read e) ≡ false) → AreKept rows es → AreKept rows (es ++ e ∷ [])
passed rows es e from to h = record {
  recv = λ id low. h.recv id low ∙ ap (λ (x : Option CarriedData). option_map carried_signed x) (sym (last_none (λ x. is_recv_from id (read x)) es e (from id)));
  sent = λ id low. h.sent id low ∙ ap (λ (x : Option CarriedData). x >>= sent_of) (sym (last_none (λ x. is_send_to id (read x)) es e (to id)));
}

pub unread : (rows : List KeptRow) (es : List CarriedData) (e : CarriedData) → read e ≡ None → AreKept rows es → AreKept rows (es ++ e ∷ [])
unread rows es e r h = passed rows es e (λ id. rw r refl) (λ id. rw r refl) h

not_came : (c : ContentData) (id : ℕ) → None ≡ came_from c → is_recv_from id (Some c) ≡ false
not_came (boot count r) id h = refl
not_came (snap count r) id h = refl
not_came (conin count bytes) id h = refl
not_came (clock count value) id h = refl
not_came (recv count packet) id h = absurd cc
not_came (acked count packet) id h = refl
not_came (out count bytes) id h = refl
not_came (send count peer number payload) id h = refl
not_came (halt count cause value) id h = refl

not_sent : (c : ContentData) (id : ℕ) → None ≡ sent_to c → is_send_to id (Some c) ≡ false
not_sent (boot count r) id h = refl
not_sent (snap count r) id h = refl
not_sent (conin count bytes) id h = refl
not_sent (clock count value) id h = refl
not_sent (recv count packet) id h = refl
not_sent (acked count packet) id h = refl
not_sent (out count bytes) id h = refl
not_sent (send count peer number payload) id h = absurd cc
not_sent (halt count cause value) id h = refl

pub no_message : (rows : List KeptRow) (es : List CarriedData) (e : CarriedData) (c : ContentData) → read e ≡ Some c → None ≡ came_from c → None ≡ sent_to c → AreKept rows es → AreKept rows (es ++ e ∷ [])
no_message rows es e c r from to h = passed rows es e (λ id. ap (λ (w : Option ContentData). is_recv_from id w) r ∙ not_came c id from) (λ id. ap (λ (w : Option ContentData). is_send_to id w) r ∙ not_sent c id to) h

pub record Came (c : ContentData) (peer : ℕ) : Type 0 where
  pub count : ℕ
  pub packet : List ℕ
  pub is : c ≡ recv count packet
  pub from : sender_of (data_at packet) ≡ peer

some_nat : (a b : ℕ) → Some a ≡ Some b → b ≡ a
some_nat a b h = cc

pub came : (c : ContentData) (peer : ℕ) → Some peer ≡ came_from c → Came c peer
came (boot count r) peer h = absurd cc
came (snap count r) peer h = absurd cc
came (conin count bytes) peer h = absurd cc
came (clock count value) peer h = absurd cc
came (recv count packet) peer h = record { count = count; packet = packet; is = refl; from = some_nat peer (sender_of (data_at packet)) h }
came (acked count packet) peer h = absurd cc
came (out count bytes) peer h = absurd cc
came (send count to number payload) peer h = absurd cc
came (halt count cause value) peer h = absurd cc

pub record Went (c : ContentData) (peer number : ℕ) : Type 0 where
  pub count : ℕ
  pub payload : List ℕ
  pub is : c ≡ send count peer number payload

pub went : (c : ContentData) (peer number : ℕ) → Some (peer, number) ≡ sent_to c → Went c peer number
went (boot count r) peer number h = absurd cc
went (snap count r) peer number h = absurd cc
went (conin count bytes) peer number h = absurd cc
went (clock count value) peer number h = absurd cc
went (recv count packet) peer number h = absurd cc
went (acked count packet) peer number h = absurd cc
went (out count bytes) peer number h = absurd cc
went (send count p n payload) peer number h =
    let a : p ≡ peer = ap (λ (o : Option (ℕ × ℕ)). first o) (sym h) in
    let b : n ≡ number = ap (λ (o : Option (ℕ × ℕ)). second o) (sym h) in
    record { count = count; payload = payload; is = rw (a, b) refl }
  where
    first : Option (ℕ × ℕ) → ℕ
    first None = 0
    first (Some x) = x.0

    second : Option (ℕ × ℕ) → ℕ
    second None = 0
    second (Some x) = x.1
went (halt count cause value) peer number h = absurd cc
