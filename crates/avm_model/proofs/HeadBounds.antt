-- What the bounds of a head say, and how long a head can be.
use Rattle.std.proofs.Common.{◌≡◌, ℕ, zero, suc, ◌+◌, ◌*◌, ◌%◌, ◌^◌, ◌<◌, ◌≤◌, Bool, true, false, cond, not, nat_eq, nat_lt, nat_le, ◌&&◌, List, [], ◌∷◌, length, Some, None, is_some, IsSome, slice_get, refl, sym, ap, ◌∙◌, arith, inl, inr}
use Rattle.std.specs.List.{prefix_len, AllByRecursion}
use Rattle.std.proofs.lemmas.Bool.{cases_Bool, cases_lt, and_parts, eqb-true, ltb-true, lt-ltb, leb-true, le-leb, eq-eqb}
use Rattle.avm_num.proofs.Numbers.{bind_some, kept_some, and_true}
use Rattle.avm_model.specs.Device.{MessageState, row_at, row_of}
use Rattle.avm_model.specs.declared.Peer.{Peer}
use Rattle.avm_model.specs.Head.{HeadData, FitsMessage}
use Rattle.avm_model.specs.HeadReading.{parts_at, head_of}
use Rattle.avm_model.specs.Memory.{is_page_count}
use Rattle.avm_model.specs.Bounds.{is_row, are_rows, none_past, knows, are_messages, has_ten, is_front, is_hart, are_queues, suits, is_head}
use Rattle.avm_model.proofs.PeerLaws.{row_parts}
use Rattle.avm_model.specs.Bell.{is_bell}
use Rattle.avm_model.specs.Sizes.{messages_size, bell_size, head_size}

pub record Bounded (h : HeadData) : Type 0 where
  pub own : h.front.own < 16
  pub pages : is_page_count h.front.pages ≡ true
  pub rows : are_rows h.front.own 0 h.front.peers ≡ true
  pub pc : h.hart.pc % 4 ≡ 0
  pub count : h.hart.count < 2 ^ 62
  pub sent : none_past h.hart.count h.front.peers ≡ true
  pub line : length h.queues.line ≤ 127
  pub console : length h.queues.console ≤ 1024
  pub messages : length h.queues.messages ≤ 8
  pub known : are_messages h.front.peers h.queues.messages ≡ true
  pub result : h.transmit.result ≤ 3
  pub bell : is_bell h.bell ≡ true

pub bounded : (h : HeadData) → is_head h ≡ true → Bounded h
unfolding is_head
bounded h e =
    let f = h.front in
    let q = h.queues in
    let r = and_parts (is_front f && is_hart h.hart && none_past h.hart.count f.peers && are_queues f.peers q && suits h.hart.status q && nat_le h.transmit.result 3) (is_bell h.bell) e in
    let a = and_parts (is_front f && is_hart h.hart && none_past h.hart.count f.peers && are_queues f.peers q && suits h.hart.status q) (nat_le h.transmit.result 3) r.0 in
    let b = and_parts (is_front f && is_hart h.hart && none_past h.hart.count f.peers && are_queues f.peers q) (suits h.hart.status q) a.0 in
    let c = and_parts (is_front f && is_hart h.hart && none_past h.hart.count f.peers) (are_queues f.peers q) b.0 in
    let d = and_parts (is_front f && is_hart h.hart) (none_past h.hart.count f.peers) c.0 in
    let g = and_parts (is_front f) (is_hart h.hart) d.0 in
    let front = and_parts (nat_lt f.own 16 && nat_le 1024 f.snap && nat_le f.snap (2 ^ 24) && is_page_count f.pages) (are_rows f.own 0 f.peers) g.0 in
    let front2 = and_parts (nat_lt f.own 16 && nat_le 1024 f.snap && nat_le f.snap (2 ^ 24)) (is_page_count f.pages) front.0 in
    let front3 = and_parts (nat_lt f.own 16 && nat_le 1024 f.snap) (nat_le f.snap (2 ^ 24)) front2.0 in
    let front4 = and_parts (nat_lt f.own 16) (nat_le 1024 f.snap) front3.0 in
    let hart = and_parts (nat_eq (h.hart.pc % 4) 0) (nat_lt h.hart.count (2 ^ 62)) g.1 in
    let w = and_parts (nat_le (length q.line) 127 && not (has_ten q.line) && nat_le (length q.console) 1024 && nat_le (length q.messages) 8) (are_messages f.peers q.messages) c.1 in
    let x = and_parts (nat_le (length q.line) 127 && not (has_ten q.line) && nat_le (length q.console) 1024) (nat_le (length q.messages) 8) w.0 in
    let y = and_parts (nat_le (length q.line) 127 && not (has_ten q.line)) (nat_le (length q.console) 1024) x.0 in
    let z = and_parts (nat_le (length q.line) 127) (not (has_ten q.line)) y.0 in
    record {
      own = ltb-true f.own 16 front4.0;
      pages = front2.1;
      rows = front.1;
      pc = eqb-true (h.hart.pc % 4) 0 hart.0;
      count = ltb-true h.hart.count (2 ^ 62) hart.1;
      sent = d.1;
      line = leb-true (length q.line) 127 z.0;
      console = leb-true (length q.console) 1024 y.1;
      messages = leb-true (length q.messages) 8 x.1;
      known = w.1;
      result = leb-true h.transmit.result 3 a.1;
      bell = r.1;
    }

-- what is read as a head is within the bounds
pub head_bounded : (bytes : List ℕ) (h : HeadData) → head_of bytes ≡ Some h → is_head h ≡ true
unfolding head_of
head_bounded bytes h e =
    let a = bind_some (parts_at bytes) _ h e in
    let k = kept_some (nat_eq (length a.0.1) 0 && is_head a.0.0) a.0.0 h a.2 in
    ap is_head (sym k.1) ∙ (and_true (nat_eq (length a.0.1) 0) (is_head a.0.0) k.0).1

-- ---- rows

row_id : (own low : ℕ) (p : Peer) (ps : List Peer) → are_rows own low (p ∷ ps) ≡ true → (low ≤ p.id) × (p.id < 16) × (p.id ≡ own → ⊥) × (are_rows own (p.id + 1) ps ≡ true)
row_id own low p ps e =
    let a = and_parts (nat_le low p.id && is_row own p) (are_rows own (p.id + 1) ps) e in
    let b = and_parts (nat_le low p.id) (is_row own p) a.0 in
    let r = row_parts own p b.1 in
    (leb-true low p.id b.0, ltb-true p.id 16 r.id, (λ (is : p.id ≡ own). let n : not (nat_eq own own) ≡ true = ap (λ (k : ℕ). not (nat_eq k own)) (sym is) ∙ r.other in differs own n), a.1)
  where
    differs : (n : ℕ) → not (nat_eq n n) ≡ true → ⊥
    differs n e = let s : nat_eq n n ≡ true = eq-eqb n n refl in let f : false ≡ true = ap not (sym s) ∙ e in cc

-- ids that ascend from low on are few
few_rows : (own low : ℕ) (ps : List Peer) → are_rows own low ps ≡ true → low ≤ 16 → length ps + low ≤ 16
few_rows own low [] e le = omega arith
few_rows own low (p ∷ ps) e le =
    let r = row_id own low p ps e in
    let ih = few_rows own (p.id + 1) ps r.3 (omega (arith, r.1)) in
    omega (arith, ih, r.0)

-- and the own id is none of them
fewer_rows : (own low : ℕ) (ps : List Peer) → own < 16 → are_rows own low ps ≡ true → low ≤ own → length ps + low < 16
fewer_rows own low [] self e le = omega arith
fewer_rows own low (p ∷ ps) self e le =
    let r = row_id own low p ps e in
    elim (cases_lt p.id own) [
      | inl before ↦ let ih = fewer_rows own (p.id + 1) ps self r.3 (omega arith) in omega (arith, ih, r.0)
      | inr past ↦ elim (cases_lt own p.id) [
        | inl after ↦ let ih = few_rows own (p.id + 1) ps r.3 (omega (arith, r.1)) in omega (arith, ih)
        | inr here ↦ absurd (r.2 (omega arith))
      ]
    ]

pub rows_few : (h : HeadData) → is_head h ≡ true → length h.front.peers < 16
rows_few h e = let b = bounded h e in let f = fewer_rows h.front.own 0 h.front.peers b.own b.rows (omega arith) in omega (arith, f)

-- a smaller count is not passed by more
pub past_more : (n m : ℕ) (ps : List Peer) → n ≤ m → none_past n ps ≡ true → none_past m ps ≡ true
past_more n m [] le e = refl
past_more n m (p ∷ ps) le e =
    let a = and_parts (nat_le p.sent n) (none_past n ps) e in
    let low = leb-true p.sent n a.0 in
    rw (le-leb p.sent m (omega (arith, low)), past_more n m ps le a.1) refl

-- ---- a row of a known id

known_from : (peers : List Peer) (id : ℕ) → knows peers id ≡ true → nat_lt (prefix_len (λ (p : Peer). not (nat_eq p.id id)) peers) (length peers) ≡ true
known_from [] id e = absurd cc
known_from (x ∷ xs) id e =
    let n : ℕ = prefix_len (λ (p : Peer). not (nat_eq p.id id)) xs in
    elim (cases_Bool (nat_eq x.id id)) [
      | inl is ↦ rw is (lt-ltb 0 (suc (length xs)) (omega arith))
      | inr is ↦
          let e' : knows xs id ≡ true = rw is at e in
          let low = ltb-true n (length xs) (known_from xs id e') in
          rw is (lt-ltb (1 + n) (suc (length xs)) (omega (arith, low)))
    ]

inside : {X : Type 0} (xs : List X) (i : ℕ) → i < length xs → is_some (slice_get xs i) ≡ true
inside [] i lt = absurd (omega arith)
inside (x ∷ xs) zero lt = refl
inside (x ∷ xs) (suc i) lt = inside xs i (omega arith)

some_at : (peers : List Peer) (b : Bool) (i : ℕ) → b ≡ true → i < length peers → IsSome (row_at peers (cond b (Some i) None))
some_at peers true i e low = inside peers i low
some_at peers false i e low = absurd cc

pub known_found : (peers : List Peer) (id : ℕ) → knows peers id ≡ true → IsSome (row_of peers id)
known_found peers id e = let t = known_from peers id e in some_at peers _ _ t (ltb-true _ _ t)

pub head_known : (peers : List Peer) (m : MessageState) (old new : List MessageState) → old ≡ m ∷ new → are_messages peers old ≡ true → IsSome (row_of peers m.peer)
head_known peers m old new e known =
    let k : are_messages peers (m ∷ new) ≡ true = ap (are_messages peers) (sym e) ∙ known in
    let a = and_parts (nat_le (length m.payload) 1024 && knows peers m.peer) (are_messages peers new) k in
    known_found peers m.peer (and_parts (nat_le (length m.payload) 1024) (knows peers m.peer) a.0).1

-- ---- lengths

messages_short : (peers : List Peer) (ms : List MessageState) → are_messages peers ms ≡ true → messages_size ms ≤ 1027 * length ms
messages_short peers [] e = omega arith
messages_short peers (m ∷ ms) e =
    let a = and_parts (nat_le (length m.payload) 1024 && knows peers m.peer) (are_messages peers ms) e in
    let b = leb-true (length m.payload) 1024 (and_parts (nat_le (length m.payload) 1024) (knows peers m.peer) a.0).0 in
    let ih = messages_short peers ms a.1 in
    omega (arith, b, ih)

pub size_most : (h : HeadData) → is_head h ≡ true → head_size h ≤ 11774 + bell_size h.bell
size_most h e =
    let b = bounded h e in
    let few = rows_few h e in
    let short = messages_short h.front.peers h.queues.messages b.known in
    let line = b.line in
    let console = b.console in
    let messages = b.messages in
    omega (arith, few, short)

pub messages_fit : (peers : List Peer) (ms : List MessageState) → are_messages peers ms ≡ true → AllByRecursion FitsMessage ms
messages_fit peers [] e = tt
messages_fit peers (m ∷ ms) e =
    let a = and_parts (nat_le (length m.payload) 1024 && knows peers m.peer) (are_messages peers ms) e in
    let b = leb-true (length m.payload) 1024 (and_parts (nat_le (length m.payload) 1024) (knows peers m.peer) a.0).0 in
    (omega (arith, b), messages_fit peers ms a.1)
