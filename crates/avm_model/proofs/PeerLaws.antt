-- What changes to the rows and to the queue of messages keep.
use Rattle.std.proofs.Common.{◌≡◌, ℕ, zero, suc, ◌+◌, ◌-◌, ◌^◌, ◌<◌, ◌≤◌, Bool, true, false, cond, not, nat_eq, nat_lt, nat_le, ◌||◌, List, [], ◌∷◌, ◌++◌, length, drop, Option, Some, None, refl, sym, ap, subst, ◌∙◌, arith, IsSome, slice_get, slice_set, All, inl, inr}
use Rattle.std.specs.List.{prefix_len}
use Rattle.std.proofs.lemmas.Bool.{cases_Bool, and_parts, and_from, eqb-true, eq-eqb, ltb-true, lt-ltb, leb-true, le-leb}
use Rattle.avm_model.specs.Bounds.{is_key, is_row, are_rows, none_past, knows, are_messages}
use Rattle.avm_model.specs.Device.{MessageState, row_at, change_at, row_of, with_row, find_peer, sends_one, send_result}
use Rattle.avm_model.specs.Input.{receives_one, acknowledges}
use Rattle.avm_model.specs.DeviceBounds.{IsPeered}
use Rattle.avm_model.specs.declared.Peer.{Peer}

-- ---- a row

abbrev acks : Peer → Bool
acks p = nat_eq p.acked p.sent || nat_eq (p.acked + 1) p.sent

pub record IsRow (own : ℕ) (p : Peer) : Type 0 where
  pub id : nat_lt p.id 16 ≡ true
  pub other : not (nat_eq p.id own) ≡ true
  pub key : is_key p.key ≡ true
  pub acked : acks p ≡ true
  pub received : nat_lt p.received (2 ^ 62) ≡ true

pub row_parts : (own : ℕ) (p : Peer) → is_row own p ≡ true → IsRow own p
row_parts own p e =
    let a = and_parts _ (nat_lt p.received (2 ^ 62)) e in
    let b = and_parts _ (acks p) a.0 in
    let c = and_parts _ (is_key p.key) b.0 in
    let d = and_parts (nat_lt p.id 16) (not (nat_eq p.id own)) c.0 in
    record { id = d.0; other = d.1; key = c.1; acked = b.1; received = a.1 }

row_from : (own : ℕ) (p : Peer) → IsRow own p → is_row own p ≡ true
row_from own p r =
    and_from _ _ (and_from _ _ (and_from _ _ (and_from _ _ r.id r.other) r.key) r.acked) r.received

either : (a b : Bool) → a ≡ true → (a || b) ≡ true
either a b e = rw e refl

other_one : (a b : Bool) → b ≡ true → (a || b) ≡ true
other_one true b e = refl
other_one false b e = e

-- ---- a list of rows

-- a row that keeps its id and its bounds
abbrev Keeps : ℕ → (Peer → Peer) → Peer → Type 0
Keeps own change p = ((change p).id ≡ p.id) × (is_row own (change p) ≡ true)

set_rows : (own low : ℕ) (peers : List Peer) (i : ℕ) (p q : Peer) → slice_get peers i ≡ Some p → q.id ≡ p.id → is_row own q ≡ true → are_rows own low peers ≡ true → are_rows own low (slice_set peers i q) ≡ true
set_rows own low [] i p q at same row e = e
set_rows own low (x ∷ xs) zero p q at same row e =
    let a = and_parts _ (are_rows own (x.id + 1) xs) e in
    let b = and_parts (nat_le low x.id) (is_row own x) a.0 in
    let is : x ≡ p = cc in
    let id : q.id ≡ x.id = same ∙ sym (ap (λ (r : Peer). r.id) is) in
    and_from _ _ (and_from _ _ (rw id b.0) row) (rw id a.1)
set_rows own low (x ∷ xs) (suc i) p q at same row e =
    let a = and_parts _ (are_rows own (x.id + 1) xs) e in
    and_from _ _ a.0 (set_rows own (x.id + 1) xs i p q at same row a.1)

get_row : (own low : ℕ) (peers : List Peer) (i : ℕ) (p : Peer) → slice_get peers i ≡ Some p → are_rows own low peers ≡ true → is_row own p ≡ true
get_row own low [] i p at e = absurd cc
get_row own low (x ∷ xs) zero p at e =
    let a = and_parts _ (are_rows own (x.id + 1) xs) e in
    let is : x ≡ p = cc in
    subst (λ r. is_row own r ≡ true) is (and_parts (nat_le low x.id) (is_row own x) a.0).1
get_row own low (x ∷ xs) (suc i) p at e = get_row own (x.id + 1) xs i p at (and_parts _ (are_rows own (x.id + 1) xs) e).1

set_past : (n : ℕ) (peers : List Peer) (i : ℕ) (q : Peer) → q.sent ≤ n → none_past n peers ≡ true → none_past n (slice_set peers i q) ≡ true
set_past n [] i q le e = e
set_past n (x ∷ xs) zero q le e = and_from _ _ (le-leb q.sent n le) (and_parts (nat_le x.sent n) (none_past n xs) e).1
set_past n (x ∷ xs) (suc i) q le e =
    let a = and_parts (nat_le x.sent n) (none_past n xs) e in
    and_from _ _ a.0 (set_past n xs i q le a.1)

get_past : (n : ℕ) (peers : List Peer) (i : ℕ) (p : Peer) → slice_get peers i ≡ Some p → none_past n peers ≡ true → p.sent ≤ n
get_past n [] i p at e = absurd cc
get_past n (x ∷ xs) zero p at e =
    let is : x ≡ p = cc in
    subst (λ (r : Peer). r.sent ≤ n) is (leb-true x.sent n (and_parts (nat_le x.sent n) (none_past n xs) e).0)
get_past n (x ∷ xs) (suc i) p at e = get_past n xs i p at (and_parts (nat_le x.sent n) (none_past n xs) e).1

set_knows : (peers : List Peer) (i : ℕ) (p q : Peer) (id : ℕ) → slice_get peers i ≡ Some p → q.id ≡ p.id → knows (slice_set peers i q) id ≡ knows peers id
set_knows [] i p q id at same = refl
set_knows (x ∷ xs) zero p q id at same =
    let is : x ≡ p = cc in
    let eq : q.id ≡ x.id = same ∙ sym (ap (λ (r : Peer). r.id) is) in
    ap (λ n. nat_eq n id || knows xs id) eq
set_knows (x ∷ xs) (suc i) p q id at same = ap (λ k. nat_eq x.id id || k) (set_knows xs i p q id at same)

-- ---- messages

messages_known : (old new : List Peer) (ms : List MessageState) → ((id : ℕ) → knows new id ≡ knows old id) → are_messages new ms ≡ are_messages old ms
messages_known old new [] same = refl
messages_known old new (m ∷ ms) same = rw (same m.peer, messages_known old new ms same) refl

pub messages_drop : (peers : List Peer) (ms : List MessageState) → are_messages peers ms ≡ true → are_messages peers (drop 1 ms) ≡ true
messages_drop peers [] e = refl
messages_drop peers (m ∷ ms) e = (and_parts _ (are_messages peers ms) e).1

messages_more : (peers : List Peer) (ms : List MessageState) (m : MessageState) → length m.payload ≤ 1024 → knows peers m.peer ≡ true → are_messages peers ms ≡ true → are_messages peers (ms ++ m ∷ []) ≡ true
messages_more peers [] m short known e = and_from _ _ (and_from _ _ (le-leb (length m.payload) 1024 short) known) refl
messages_more peers (x ∷ xs) m short known e =
    let a = and_parts _ (are_messages peers xs) e in
    and_from _ _ a.0 (messages_more peers xs m short known a.1)

-- a row that is found is known
found_from : (peers : List Peer) (id : ℕ) → nat_lt (prefix_len (λ (p : Peer). not (nat_eq p.id id)) peers) (length peers) ≡ true → knows peers id ≡ true
found_from [] id e = absurd cc
found_from (x ∷ xs) id e =
    let n = prefix_len (λ (p : Peer). not (nat_eq p.id id)) xs in
    elim (cases_Bool (nat_eq x.id id)) [
      | inl is ↦ either _ _ is
      | inr is ↦
          let e' : nat_lt (1 + n) (suc (length xs)) ≡ true = rw is at e in
          other_one _ _ (found_from xs id (lt-ltb n (length xs) (omega (arith, ltb-true (1 + n) (suc (length xs)) e'))))
    ]

some_found : (peers : List Peer) (b : Bool) (i : ℕ) → IsSome (row_at peers (cond b (Some i) None)) → b ≡ true
some_found peers true i e = refl
some_found peers false i e = absurd cc

pub found_known : (peers : List Peer) (id : ℕ) → IsSome (row_of peers id) → knows peers id ≡ true
found_known peers id e = found_from peers id (some_found peers _ _ e)

-- ---- the whole

-- what a change of the row of an id has to keep, at that row
abbrev ChangeKeeps : ℕ → List Peer → (Peer → Peer) → ℕ → Type 0
ChangeKeeps own peers change id = (p : Peer) → row_of peers id ≡ Some p → is_row own p ≡ true → Keeps own change p × ((change p).sent ≤ 2 ^ 62 - 1)

changed_at : (own : ℕ) (peers : List Peer) (ms : List MessageState) (change : Peer → Peer) (at : Option ℕ) (row : Option Peer) → row ≡ row_at peers at → ((p : Peer) → row ≡ Some p → is_row own p ≡ true → Keeps own change p × ((change p).sent ≤ 2 ^ 62 - 1)) → IsPeered own peers ms → IsPeered own (change_at peers change at row) ms
changed_at own peers ms change None row is keeps h = h
changed_at own peers ms change (Some i) None is keeps h = h
changed_at own peers ms change (Some i) (Some p) is keeps h =
    let k = keeps p refl (get_row own 0 peers i p (sym is) h.rows) in
    record {
      self = h.self;
      rows = set_rows own 0 peers i p (change p) (sym is) k.0.0 k.0.1 h.rows;
      sent = set_past (2 ^ 62 - 1) peers i (change p) k.1 h.sent;
      known = messages_known peers (slice_set peers i (change p)) ms (λ id. set_knows peers i p (change p) id (sym is) k.0.0) ∙ h.known;
    }

pub changed : (own : ℕ) (peers : List Peer) (ms : List MessageState) (change : Peer → Peer) (id : ℕ) → ChangeKeeps own peers change id → IsPeered own peers ms → IsPeered own (with_row peers id change) ms
changed own peers ms change id keeps h = changed_at own peers ms change (find_peer peers id) (row_of peers id) refl keeps h

row_past_at : (n : ℕ) (peers : List Peer) (at : Option ℕ) (p : Peer) → row_at peers at ≡ Some p → none_past n peers ≡ true → p.sent ≤ n
row_past_at n peers None p e h = absurd cc
row_past_at n peers (Some i) p e h = get_past n peers i p e h

pub row_past : (n : ℕ) (peers : List Peer) (id : ℕ) (p : Peer) → row_of peers id ≡ Some p → none_past n peers ≡ true → p.sent ≤ n
row_past n peers id p e h = row_past_at n peers (find_peer peers id) p e h

-- a message that is received
pub peered_receives : (own : ℕ) (peers : List Peer) (ms : List MessageState) (id : ℕ) → ((p : Peer) → row_of peers id ≡ Some p → p.received < 2 ^ 62 - 1) → IsPeered own peers ms → IsPeered own (with_row peers id receives_one) ms
peered_receives own peers ms id low h =
    changed own peers ms receives_one id
    (λ p at row.
    let r = row_parts own p row in
    ((refl, row_from own (receives_one p) (record { id = r.id; other = r.other; key = r.key; acked = r.acked; received = lt-ltb (p.received + 1) (2 ^ 62) (omega (arith, low p at)) })), row_past (2 ^ 62 - 1) peers id p at h.sent)) h

-- a message that is acknowledged
pub peered_acks : (own : ℕ) (peers : List Peer) (ms : List MessageState) (id : ℕ) → IsPeered own peers ms → IsPeered own (with_row peers id acknowledges) ms
peered_acks own peers ms id h =
    changed own peers ms acknowledges id
    (λ p at row.
    let r = row_parts own p row in
    ((refl, row_from own (acknowledges p) (record { id = r.id; other = r.other; key = r.key; acked = either _ _ (eq-eqb p.sent p.sent refl); received = r.received })), row_past (2 ^ 62 - 1) peers id p at h.sent)) h

-- a message that is sent: the one before was acknowledged
sent_acked : (len : ℕ) (p : Peer) → send_result len (Some p) ≡ 0 → p.sent ≡ p.acked
sent_acked len p e =
    elim (cases_Bool (nat_lt 1024 len)) [
      | inl long ↦ absurd (let e' : 2 ≡ 0 = rw long at e in omega (arith, e'))
      | inr short ↦
          elim (cases_Bool (nat_eq p.sent p.acked)) [
            | inl is ↦ eqb-true p.sent p.acked is
            | inr other ↦ absurd (let e' : 3 ≡ 0 = rw (short, other) at e in omega (arith, e'))
          ]
    ]

pub peered_sends : (own : ℕ) (peers : List Peer) (ms : List MessageState) (id len : ℕ) → send_result len (row_of peers id) ≡ 0 → ((p : Peer) → row_of peers id ≡ Some p → p.sent < 2 ^ 62 - 1) → IsPeered own peers ms → IsPeered own (with_row peers id sends_one) ms
peered_sends own peers ms id len sends low h =
    changed own peers ms sends_one id
    (λ p at row.
    let r = row_parts own p row in
    let sends' : send_result len (Some p) ≡ 0 = rw at at sends in
    let equal = sent_acked len p sends' in
    ((refl, row_from own (sends_one p) (record { id = r.id; other = r.other; key = r.key; acked = other_one _ _ (eq-eqb (p.acked + 1) (p.sent + 1) (omega (arith, equal))); received = r.received })), omega (arith, low p at))) h

-- a message that is queued, and one that is dropped
pub peered_takes : (own : ℕ) (peers : List Peer) (ms : List MessageState) (m : MessageState) → length m.payload ≤ 1024 → IsSome (row_of peers m.peer) → IsPeered own peers ms → IsPeered own peers (ms ++ m ∷ [])
peered_takes own peers ms m short row h =
    record { self = h.self; rows = h.rows; sent = h.sent; known = messages_more peers ms m short (found_known peers m.peer row) h.known }

pub peered_drops : (own : ℕ) (peers : List Peer) (ms : List MessageState) → IsPeered own peers ms → IsPeered own peers (drop 1 ms)
peered_drops own peers ms h = record { self = h.self; rows = h.rows; sent = h.sent; known = messages_drop peers ms h.known }

-- a bound on all rows holds of the row of an id
all_at : (P : Peer → Type 0) (peers : List Peer) (i : ℕ) (p : Peer) → All P peers → slice_get peers i ≡ Some p → P p
all_at P [] i p h at = absurd cc
all_at P (x ∷ xs) zero p h at = let is : x ≡ p = cc in subst P is (h 0 p (omega arith))
all_at P (x ∷ xs) (suc i) p h at = all_at P xs i p (λ k d l. h (suc k) d (omega (arith, l))) at

all_row_at : (P : Peer → Type 0) (peers : List Peer) (at : Option ℕ) (p : Peer) → All P peers → row_at peers at ≡ Some p → P p
all_row_at P peers None p h e = absurd cc
all_row_at P peers (Some i) p h e = all_at P peers i p h e

pub all_row : (P : Peer → Type 0) (peers : List Peer) (id : ℕ) (p : Peer) → All P peers → row_of peers id ≡ Some p → P p
all_row P peers id p h e = all_row_at P peers (find_peer peers id) p h e
