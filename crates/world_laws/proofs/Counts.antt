-- Rows count the mail.
use Rattle.std.proofs.Common.{◌≡◌, ℕ, suc, ◌+◌, Bool, true, false, List, [], ◌∷◌, ◌++◌, length, Option, Some, refl, sym, ap, subst, ◌∙◌, arith}
use Rattle.std.specs.Prelude.{◌==◌, if◌then◌else◌}
use Rattle.std.specs.Option.{option_map}
use Rattle.std.proofs.lemmas.List.{append-nil}
use Rattle.std.proofs.lemmas.Bool.{eqb-true, eq-eqb}
use Rattle.avm_model.specs.Device.{row_of, with_row, sends_one}
use Rattle.avm_model.specs.Input.{receives_one, acknowledges}
use Rattle.avm_model.specs.declared.Peer.{Peer}
use Rattle.world_model.specs.World.{Message, RunOn, Mail, SentTo, ReceivedFrom, AckedBy, sent_to, received_from, acked_behind, acked_by}
use Rattle.world_laws.specs.Counting.{Sends, SendsNone, SendsOne, IsCounted}
use Rattle.world_model.proofs.Lists.{run_append}
use Rattle.world_model.proofs.Mails.{sent-append, received-append}
use Rattle.world_laws.proofs.Rows.{KeepsId, row_changed, row_other}

abbrev pub mail_peer : Mail → ℕ
mail_peer (SentTo peer number payload) = peer
mail_peer (ReceivedFrom peer number payload) = peer
mail_peer (AckedBy peer number) = peer

pub acked-append : (n peer : ℕ) (a b : List Mail) → acked_behind n peer (a ++ b) ≡ acked_behind (acked_behind n peer a) peer b
acked-append n peer [] b = refl
acked-append n peer (SentTo id k p ∷ a) b = acked-append n peer a b
acked-append n peer (ReceivedFrom id k p ∷ a) b = acked-append n peer a b
acked-append n peer (AckedBy id k ∷ a) b = acked-append (if id == peer then k else n) peer a b

-- ---- mail of another peer

sent_other : (id : ℕ) (m : Mail) → (mail_peer m == id) ≡ false → sent_to id (m ∷ []) ≡ []
sent_other id (SentTo peer number payload) e = rw e refl
sent_other id (ReceivedFrom peer number payload) e = refl
sent_other id (AckedBy peer number) e = refl

received_other : (id : ℕ) (m : Mail) → (mail_peer m == id) ≡ false → received_from id (m ∷ []) ≡ []
received_other id (SentTo peer number payload) e = refl
received_other id (ReceivedFrom peer number payload) e = rw e refl
received_other id (AckedBy peer number) e = refl

acked_other : (n id : ℕ) (m : Mail) → (mail_peer m == id) ≡ false → acked_behind n id (m ∷ []) ≡ n
acked_other n id (SentTo peer number payload) e = refl
acked_other n id (ReceivedFrom peer number payload) e = refl
acked_other n id (AckedBy peer number) e = rw e refl

-- what a row counts of the mail of one peer
pub record Counts (row : Peer) (id : ℕ) (ms : List Mail) : Type 0 where
  pub sent_run : RunOn 1 (sent_to id ms)
  pub received_run : RunOn 1 (received_from id ms)
  pub sent : row.sent ≡ length (sent_to id ms)
  pub received : row.received ≡ length (received_from id ms)
  pub acked : row.acked ≡ acked_by id ms

-- ---- one more

other_same : (id : ℕ) (ms : List Mail) (m : Mail) → (mail_peer m == id) ≡ false → (sent_to id (ms ++ m ∷ []) ≡ sent_to id ms) × (received_from id (ms ++ m ∷ []) ≡ received_from id ms) × (acked_by id (ms ++ m ∷ []) ≡ acked_by id ms)
other_same id ms m e = (
  sent-append id ms (m ∷ []) ∙ ap (λ (x : List Message). sent_to id ms ++ x) (sent_other id m e) ∙ append-nil (sent_to id ms),
  received-append id ms (m ∷ []) ∙ ap (λ (x : List Message). received_from id ms ++ x) (received_other id m e) ∙ append-nil (received_from id ms),
  acked-append 0 id ms (m ∷ []) ∙ acked_other (acked_behind 0 id ms) id m e,
)

pub counted_one : (old : List Peer) (f : Peer → Peer) (ms : List Mail) (m : Mail) (row : Peer) → KeepsId f → row_of old (mail_peer m) ≡ Some row → Counts (f row) (mail_peer m) (ms ++ m ∷ []) → IsCounted old ms → IsCounted (with_row old (mail_peer m) f) (ms ++ m ∷ [])
counted_one old f ms m row keeps is k h = record {
  numbered = record {
    sent = λ id. sent_run id (mail_peer m == id) refl;
    received = λ id. received_run id (mail_peer m == id) refl;
  };
  sent = λ id r q. sent id r (mail_peer m == id) refl q;
  received = λ id r q. received id r (mail_peer m == id) refl q;
  acked = λ id r q. acked id r (mail_peer m == id) refl q;
}
  where
    sent_run : (id : ℕ) (b : Bool) → (mail_peer m == id) ≡ b → RunOn 1 (sent_to id (ms ++ m ∷ []))
    sent_run id true e = subst (λ (n : ℕ). RunOn 1 (sent_to n (ms ++ m ∷ []))) (eqb-true (mail_peer m) id e) k.sent_run
    sent_run id false e = subst (λ (x : List Message). RunOn 1 x) (sym (other_same id ms m e).0) (h.numbered.sent id)

    received_run : (id : ℕ) (b : Bool) → (mail_peer m == id) ≡ b → RunOn 1 (received_from id (ms ++ m ∷ []))
    received_run id true e = subst (λ (n : ℕ). RunOn 1 (received_from n (ms ++ m ∷ []))) (eqb-true (mail_peer m) id e) k.received_run
    received_run id false e = subst (λ (x : List Message). RunOn 1 x) (sym (other_same id ms m e).1) (h.numbered.received id)

    changed : (id : ℕ) (r : Peer) → mail_peer m ≡ id → row_of (with_row old (mail_peer m) f) id ≡ Some r → f row ≡ r
    changed id r same q =
        let here : row_of (with_row old (mail_peer m) f) (mail_peer m) ≡ Some r = subst (λ (n : ℕ). row_of (with_row old (mail_peer m) f) n ≡ Some r) (sym same) q in
        let there : row_of (with_row old (mail_peer m) f) (mail_peer m) ≡ Some (f row) = row_changed old (mail_peer m) f keeps ∙ ap (λ (o : Option Peer). option_map f o) is in
        let some : Some (f row) ≡ Some r = sym there ∙ here in
        cc

    sent : (id : ℕ) (r : Peer) (b : Bool) → (mail_peer m == id) ≡ b → row_of (with_row old (mail_peer m) f) id ≡ Some r → r.sent ≡ length (sent_to id (ms ++ m ∷ []))
    sent id r true e q =
        let same = eqb-true (mail_peer m) id e in
        ap (λ (p : Peer). p.sent) (sym (changed id r same q)) ∙ k.sent ∙ ap (λ (n : ℕ). length (sent_to n (ms ++ m ∷ []))) same
    sent id r false e q = h.sent id r (sym (row_other old (mail_peer m) id f keeps e) ∙ q) ∙ ap (λ (x : List Message). length x) (sym (other_same id ms m e).0)

    received : (id : ℕ) (r : Peer) (b : Bool) → (mail_peer m == id) ≡ b → row_of (with_row old (mail_peer m) f) id ≡ Some r → r.received ≡ length (received_from id (ms ++ m ∷ []))
    received id r true e q =
        let same = eqb-true (mail_peer m) id e in
        ap (λ (p : Peer). p.received) (sym (changed id r same q)) ∙ k.received ∙ ap (λ (n : ℕ). length (received_from n (ms ++ m ∷ []))) same
    received id r false e q = h.received id r (sym (row_other old (mail_peer m) id f keeps e) ∙ q) ∙ ap (λ (x : List Message). length x) (sym (other_same id ms m e).1)

    acked : (id : ℕ) (r : Peer) (b : Bool) → (mail_peer m == id) ≡ b → row_of (with_row old (mail_peer m) f) id ≡ Some r → r.acked ≡ acked_by id (ms ++ m ∷ [])
    acked id r true e q =
        let same = eqb-true (mail_peer m) id e in
        ap (λ (p : Peer). p.acked) (sym (changed id r same q)) ∙ k.acked ∙ ap (λ (n : ℕ). acked_by n (ms ++ m ∷ [])) same
    acked id r false e q = h.acked id r (sym (row_other old (mail_peer m) id f keeps e) ∙ q) ∙ sym (other_same id ms m e).2

-- ---- the three kinds

one_if : (b : Bool) (m : Message) → b ≡ true → (if b then m ∷ [] else []) ≡ m ∷ []
one_if true m e = refl
one_if false m e = absurd cc

more_run : (n : ℕ) (ms : List Message) (m : Message) → RunOn n ms → m.0 ≡ n + length ms → RunOn n (ms ++ m ∷ [])
more_run n ms m h e = run_append n ms (m ∷ []) h (e, tt)

one_longer : (ms : List Message) (m : Message) → length (ms ++ m ∷ []) ≡ length ms + 1
one_longer [] m = refl
one_longer (x ∷ ms) m = let ih = one_longer ms m in let e : suc (length (ms ++ m ∷ [])) ≡ suc (length ms) + 1 = omega (arith, ih) in e

pub counts_sent : (old : List Peer) (ms : List Mail) (peer number : ℕ) (payload : List ℕ) (row : Peer) → row_of old peer ≡ Some row → number ≡ row.sent + 1 → IsCounted old ms → IsCounted (with_row old peer sends_one) (ms ++ SentTo peer number payload ∷ [])
counts_sent old ms peer number payload row is n h =
    let m : Message = (number, payload) in
    let sent : sent_to peer (ms ++ SentTo peer number payload ∷ []) ≡ sent_to peer ms ++ m ∷ [] = sent-append peer ms (SentTo peer number payload ∷ []) ∙ ap (λ (x : List Message). sent_to peer ms ++ x) (one_if (peer == peer) m (eq-eqb peer peer refl)) in
    let got : received_from peer (ms ++ SentTo peer number payload ∷ []) ≡ received_from peer ms = received-append peer ms (SentTo peer number payload ∷ []) ∙ append-nil (received_from peer ms) in
    let count = h.sent peer row is in
    let next : number ≡ 1 + length (sent_to peer ms) = omega (arith, n, count) in
    counted_one old sends_one ms (SentTo peer number payload) row (λ p. refl) is (record {
      sent_run = subst (λ (x : List Message). RunOn 1 x) (sym sent) (more_run 1 (sent_to peer ms) m (h.numbered.sent peer) next);
      received_run = subst (λ (x : List Message). RunOn 1 x) (sym got) (h.numbered.received peer);
      sent = ap (λ (k : ℕ). k + 1) count ∙ sym (one_longer (sent_to peer ms) m) ∙ ap (λ (x : List Message). length x) (sym sent);
      received = h.received peer row is ∙ ap (λ (x : List Message). length x) (sym got);
      acked = h.acked peer row is ∙ sym (acked-append 0 peer ms (SentTo peer number payload ∷ []));
    }) h

pub counts_received : (old : List Peer) (ms : List Mail) (peer number : ℕ) (payload : List ℕ) (row : Peer) → row_of old peer ≡ Some row → number ≡ row.received + 1 → IsCounted old ms → IsCounted (with_row old peer receives_one) (ms ++ ReceivedFrom peer number payload ∷ [])
counts_received old ms peer number payload row is n h =
    let m : Message = (number, payload) in
    let got : received_from peer (ms ++ ReceivedFrom peer number payload ∷ []) ≡ received_from peer ms ++ m ∷ [] = received-append peer ms (ReceivedFrom peer number payload ∷ []) ∙ ap (λ (x : List Message). received_from peer ms ++ x) (one_if (peer == peer) m (eq-eqb peer peer refl)) in
    let sent : sent_to peer (ms ++ ReceivedFrom peer number payload ∷ []) ≡ sent_to peer ms = sent-append peer ms (ReceivedFrom peer number payload ∷ []) ∙ append-nil (sent_to peer ms) in
    let count = h.received peer row is in
    let next : number ≡ 1 + length (received_from peer ms) = omega (arith, n, count) in
    counted_one old receives_one ms (ReceivedFrom peer number payload) row (λ p. refl) is (record {
      sent_run = subst (λ (x : List Message). RunOn 1 x) (sym sent) (h.numbered.sent peer);
      received_run = subst (λ (x : List Message). RunOn 1 x) (sym got) (more_run 1 (received_from peer ms) m (h.numbered.received peer) next);
      sent = h.sent peer row is ∙ ap (λ (x : List Message). length x) (sym sent);
      received = ap (λ (k : ℕ). k + 1) count ∙ sym (one_longer (received_from peer ms) m) ∙ ap (λ (x : List Message). length x) (sym got);
      acked = h.acked peer row is ∙ sym (acked-append 0 peer ms (ReceivedFrom peer number payload ∷ []));
    }) h

last_acked : (n peer number : ℕ) (b : Bool) → b ≡ true → (if b then number else n) ≡ number
last_acked n peer number true e = refl
last_acked n peer number false e = absurd cc

pub counts_acked : (old : List Peer) (ms : List Mail) (peer number : ℕ) (row : Peer) → row_of old peer ≡ Some row → number ≡ row.sent → IsCounted old ms → IsCounted (with_row old peer acknowledges) (ms ++ AckedBy peer number ∷ [])
counts_acked old ms peer number row is n h =
    let got : received_from peer (ms ++ AckedBy peer number ∷ []) ≡ received_from peer ms = received-append peer ms (AckedBy peer number ∷ []) ∙ append-nil (received_from peer ms) in
    let sent : sent_to peer (ms ++ AckedBy peer number ∷ []) ≡ sent_to peer ms = sent-append peer ms (AckedBy peer number ∷ []) ∙ append-nil (sent_to peer ms) in
    counted_one old acknowledges ms (AckedBy peer number) row (λ p. refl) is (record {
      sent_run = subst (λ (x : List Message). RunOn 1 x) (sym sent) (h.numbered.sent peer);
      received_run = subst (λ (x : List Message). RunOn 1 x) (sym got) (h.numbered.received peer);
      sent = h.sent peer row is ∙ ap (λ (x : List Message). length x) (sym sent);
      received = h.received peer row is ∙ ap (λ (x : List Message). length x) (sym got);
      acked = sym n ∙ sym (last_acked (acked_behind 0 peer ms) peer number (peer == peer) (eq-eqb peer peer refl)) ∙ sym (acked-append 0 peer ms (AckedBy peer number ∷ []));
    }) h

-- a step's rows count what it sends
pub counts_sends : (old new : List Peer) (ms more : List Mail) → Sends old new more → IsCounted old ms → IsCounted new (ms ++ more)
counts_sends old new ms more (SendsNone e f) h =
    let all : ms ++ more ≡ ms = ap (λ (x : List Mail). ms ++ x) f ∙ append-nil ms in
    subst (λ (ps : List Peer). IsCounted ps (ms ++ more)) (sym e) (subst (λ (x : List Mail). IsCounted old x) (sym all) h)
counts_sends old new ms more (SendsOne peer number payload n f) h =
    subst (λ (ps : List Peer). IsCounted ps (ms ++ more)) (sym n.rows) (subst (λ (x : List Mail). IsCounted (with_row old peer sends_one) (ms ++ x)) (sym f) (counts_sent old ms peer number payload n.row n.row_is n.number_is h))
