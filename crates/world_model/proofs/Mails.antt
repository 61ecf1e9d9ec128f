-- The messages in mail.
use Rattle.std.proofs.Common.{◌≡◌, ℕ, ◌≤◌, Bool, true, false, List, [], ◌∷◌, ◌++◌, refl, ap, subst, ◌⊎◌, inl, inr}
use Rattle.std.proofs.lemmas.Bool.{eq-eqb, eqb-true}
use Rattle.std.specs.Prelude.{◌==◌, if◌then◌else◌}
use Rattle.world_model.specs.World.{Message, RunOn, Mail, SentTo, ReceivedFrom, AckedBy, sent_to, received_from, acked_behind, IsNumbered}
use Rattle.world_model.proofs.Lists.{run_front}
use Rattle.life_model.specs.Life.{Among}

append_if : (b : Bool) (m : Message) (x y z : List Message) → x ≡ y ++ z → (if b then m ∷ x else x) ≡ (if b then m ∷ y else y) ++ z
append_if true m x y z e = ap (λ (ms : List Message). m ∷ ms) e
append_if false m x y z e = e

pub sent-append : (peer : ℕ) (a b : List Mail) → sent_to peer (a ++ b) ≡ sent_to peer a ++ sent_to peer b
sent-append peer [] b = refl
sent-append peer (SentTo id number payload ∷ a) b = append_if (id == peer) (number, payload) _ _ _ (sent-append peer a b)
sent-append peer (ReceivedFrom id number payload ∷ a) b = sent-append peer a b
sent-append peer (AckedBy id number ∷ a) b = sent-append peer a b

pub received-append : (peer : ℕ) (a b : List Mail) → received_from peer (a ++ b) ≡ received_from peer a ++ received_from peer b
received-append peer [] b = refl
received-append peer (SentTo id number payload ∷ a) b = received-append peer a b
received-append peer (ReceivedFrom id number payload ∷ a) b = append_if (id == peer) (number, payload) _ _ _ (received-append peer a b)
received-append peer (AckedBy id number ∷ a) b = received-append peer a b

-- a front of numbered mail is numbered
pub numbered_front : (a b : List Mail) → IsNumbered (a ++ b) → IsNumbered a
numbered_front a b h = record {
  sent = λ peer. run_front 1 (sent_to peer a) (sent_to peer b) (subst (λ (ms : List Message). RunOn 1 ms) (sent-append peer a b) (h.sent peer));
  received = λ peer. run_front 1 (received_from peer a) (received_from peer b) (subst (λ (ms : List Message). RunOn 1 ms) (received-append peer a b) (h.received peer));
}

-- ---- members

among_if : (b : Bool) (m x : Message) (ms : List Message) → Among x (if b then m ∷ ms else ms) → ((b ≡ true) × (x ≡ m)) ⊎ Among x ms
among_if true m x ms (inl e) = inl (refl, e)
among_if true m x ms (inr i) = inr i
among_if false m x ms i = inr i

if_among : (b : Bool) (m x : Message) (ms : List Message) → Among x ms → Among x (if b then m ∷ ms else ms)
if_among true m x ms i = inr i
if_among false m x ms i = i

if_first : (b : Bool) (m x : Message) (ms : List Message) → b ≡ true → x ≡ m → Among x (if b then m ∷ ms else ms)
if_first true m x ms e q = inl q
if_first false m x ms e q = absurd cc

pub sent_in : (peer : ℕ) (m : Message) (ms : List Mail) → Among m (sent_to peer ms) → Among (SentTo peer m.0 m.1) ms
sent_in peer m [] i = absurd i
sent_in peer m (SentTo id number payload ∷ ms) i = go (λ j. sent_in peer m ms j) (among_if (id == peer) (number, payload) m (sent_to peer ms) i)
  where
    go : (Among m (sent_to peer ms) → Among (SentTo peer m.0 m.1) ms) → (((id == peer) ≡ true) × (m ≡ (number, payload))) ⊎ Among m (sent_to peer ms) → Among (SentTo peer m.0 m.1) (SentTo id number payload ∷ ms)
    go ih (inl (e, q)) =
        let same : id ≡ peer = eqb-true id peer e in
        let n : m.0 ≡ number = ap (λ (x : Message). x.0) q in
        let p : m.1 ≡ payload = ap (λ (x : Message). x.1) q in
        inl (rw (same, n, p) refl)
    go ih (inr j) = inr (ih j)
sent_in peer m (ReceivedFrom id number payload ∷ ms) i = inr (sent_in peer m ms i)
sent_in peer m (AckedBy id number ∷ ms) i = inr (sent_in peer m ms i)

pub received_in : (peer : ℕ) (m : Message) (ms : List Mail) → Among m (received_from peer ms) → Among (ReceivedFrom peer m.0 m.1) ms
received_in peer m [] i = absurd i
received_in peer m (SentTo id number payload ∷ ms) i = inr (received_in peer m ms i)
received_in peer m (ReceivedFrom id number payload ∷ ms) i = go (λ j. received_in peer m ms j) (among_if (id == peer) (number, payload) m (received_from peer ms) i)
  where
    go : (Among m (received_from peer ms) → Among (ReceivedFrom peer m.0 m.1) ms) → (((id == peer) ≡ true) × (m ≡ (number, payload))) ⊎ Among m (received_from peer ms) → Among (ReceivedFrom peer m.0 m.1) (ReceivedFrom id number payload ∷ ms)
    go ih (inl (e, q)) =
        let same : id ≡ peer = eqb-true id peer e in
        let n : m.0 ≡ number = ap (λ (x : Message). x.0) q in
        let p : m.1 ≡ payload = ap (λ (x : Message). x.1) q in
        inl (rw (same, n, p) refl)
    go ih (inr j) = inr (ih j)
received_in peer m (AckedBy id number ∷ ms) i = inr (received_in peer m ms i)

pub in_sent : (peer number : ℕ) (payload : List ℕ) (ms : List Mail) → Among (SentTo peer number payload) ms → Among (number, payload) (sent_to peer ms)
in_sent peer number payload [] i = absurd i
in_sent peer number payload (SentTo id n p ∷ ms) (inl e) =
    let same : id ≡ peer = cc in
    let q : number ≡ n = cc in
    let r : payload ≡ p = cc in
    if_first (id == peer) (n, p) (number, payload) (sent_to peer ms) (eq-eqb id peer same) (rw (q, r) refl)
in_sent peer number payload (SentTo id n p ∷ ms) (inr i) = if_among (id == peer) (n, p) (number, payload) (sent_to peer ms) (in_sent peer number payload ms i)
in_sent peer number payload (ReceivedFrom id n p ∷ ms) (inl e) = absurd cc
in_sent peer number payload (ReceivedFrom id n p ∷ ms) (inr i) = in_sent peer number payload ms i
in_sent peer number payload (AckedBy id n ∷ ms) (inl e) = absurd cc
in_sent peer number payload (AckedBy id n ∷ ms) (inr i) = in_sent peer number payload ms i

pub in_received : (peer number : ℕ) (payload : List ℕ) (ms : List Mail) → Among (ReceivedFrom peer number payload) ms → Among (number, payload) (received_from peer ms)
in_received peer number payload [] i = absurd i
in_received peer number payload (ReceivedFrom id n p ∷ ms) (inl e) =
    let same : id ≡ peer = cc in
    let q : number ≡ n = cc in
    let r : payload ≡ p = cc in
    if_first (id == peer) (n, p) (number, payload) (received_from peer ms) (eq-eqb id peer same) (rw (q, r) refl)
in_received peer number payload (ReceivedFrom id n p ∷ ms) (inr i) = if_among (id == peer) (n, p) (number, payload) (received_from peer ms) (in_received peer number payload ms i)
in_received peer number payload (SentTo id n p ∷ ms) (inl e) = absurd cc
in_received peer number payload (SentTo id n p ∷ ms) (inr i) = in_received peer number payload ms i
in_received peer number payload (AckedBy id n ∷ ms) (inl e) = absurd cc
in_received peer number payload (AckedBy id n ∷ ms) (inr i) = in_received peer number payload ms i

-- ---- what is acknowledged

-- where each acknowledged number is at most n, so is the last
pub acked_most : (n m peer : ℕ) (ms : List Mail) → m ≤ n → ((k : ℕ) → Among (AckedBy peer k) ms → k ≤ n) → acked_behind m peer ms ≤ n
acked_most n m peer [] le h = le
acked_most n m peer (SentTo id k p ∷ ms) le h = acked_most n m peer ms le (λ i a. h i (inr a))
acked_most n m peer (ReceivedFrom id k p ∷ ms) le h = acked_most n m peer ms le (λ i a. h i (inr a))
acked_most n m peer (AckedBy id k ∷ ms) le h = acked_most n (if id == peer then k else m) peer ms (by (id == peer) refl) (λ i a. h i (inr a))
  where
    by : (b : Bool) → (id == peer) ≡ b → (if b then k else m) ≤ n
    by true e =
        let same : id ≡ peer = eqb-true id peer e in
        h k (inl (rw same refl))
    by false e = le
