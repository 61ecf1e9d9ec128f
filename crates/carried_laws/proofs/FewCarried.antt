-- A base carries at most two entries for each peer.
use Rattle.std.proofs.Common.{◌≡◌, ℕ, ◌+◌, ◌*◌, ◌≤◌, ◌<◌, ◌⊎◌, inl, inr, Bool, true, false, cond, nat_lt, nat_le, ◌&&◌, ◌||◌, not, List, [], ◌∷◌, length, Option, Some, None, refl, ap, arith, leb-true, ltb-true, eqb-true, eq-eqb}
use Rattle.std.specs.Prelude.{◌==◌, IsTrue, filter, flat_map}
use Rattle.std.specs.List.{list_any}
use Rattle.std.proofs.lemmas.Bool.{cases_lt}
use Rattle.std.proofs.lemmas.List.{length-append}
use Rattle.avm_num.proofs.Numbers.{and_true}
use Rattle.avm_model.specs.Bounds.{are_rows, is_row}
use Rattle.avm_model.specs.Machine.{State}
use Rattle.avm_model.specs.declared.Peer.{Peer}
use Rattle.base_model.specs.Base.{before_entry, carried_of, earlier, is_send_of, number_of, row_numbers}
use Rattle.journal_model.specs.Header.{CarriedData}
use Rattle.journal_model.specs.Journal.{JournalData, entries, has_snap, parts}
use Rattle.journal_model.specs.Part.{signing}
use Rattle.journal_spelling.specs.Spelled.{HasSpelling}
use Rattle.record_model.specs.Released.{is_recv_from, last_that, read}
use Rattle.carried_laws.proofs.Ascents.{Ascends, earlier_ascend}

-- ---- entries of few numbers

none_of : (m seq leaf first leaves : ℕ) (es : List CarriedData) → m < seq → Ascends seq leaf first leaves es → filter (λ e. m == e.frame.seq) es ≡ []
none_of m seq leaf first leaves [] lt h = refl
none_of m seq leaf first leaves (e ∷ es) lt h =
    let low = h.0.low in
    let rest = none_of m (e.frame.seq + 1) (e.leaf + 1) first leaves es (omega (arith, lt, low)) h.1 in
    go (m == e.frame.seq) refl rest (omega (arith, lt, low))
  where
    go : (b : Bool) → (m == e.frame.seq) ≡ b → filter (λ d. m == d.frame.seq) es ≡ [] → m < e.frame.seq → cond b (e ∷ filter (λ d. m == d.frame.seq) es) (filter (λ d. m == d.frame.seq) es) ≡ []
    go true q rest low = let is = eqb-true m e.frame.seq q in absurd (omega (arith, is, low))
    go false q rest low = rest

one_of : (m seq leaf first leaves : ℕ) (es : List CarriedData) → Ascends seq leaf first leaves es → length (filter (λ e. m == e.frame.seq) es) ≤ 1
one_of m seq leaf first leaves [] h = omega arith
one_of m seq leaf first leaves (e ∷ es) h = go (m == e.frame.seq) refl (one_of m (e.frame.seq + 1) (e.leaf + 1) first leaves es h.1)
  where
    go : (b : Bool) → (m == e.frame.seq) ≡ b → length (filter (λ d. m == d.frame.seq) es) ≤ 1 → length (cond b (e ∷ filter (λ d. m == d.frame.seq) es) (filter (λ d. m == d.frame.seq) es)) ≤ 1
    go true q le =
        let is = eqb-true m e.frame.seq q in
        let none : length (filter (λ d. m == d.frame.seq) es) ≡ 0 = ap length (none_of m (e.frame.seq + 1) (e.leaf + 1) first leaves es (omega (arith, is)) h.1) in
        omega (arith, none)
    go false q le = le

either_of : (p q : CarriedData → Bool) (es : List CarriedData) → length (filter (λ e. p e || q e) es) ≤ length (filter p es) + length (filter q es)
either_of p q [] = omega arith
either_of p q (e ∷ es) = go (p e) (q e) (either_of p q es)
  where
    go : (a b : Bool) → length (filter (λ d. p d || q d) es) ≤ length (filter p es) + length (filter q es)
        → length (cond (a || b) (e ∷ filter (λ d. p d || q d) es) (filter (λ d. p d || q d) es)) ≤ length (cond a (e ∷ filter p es) (filter p es)) + length (cond b (e ∷ filter q es) (filter q es))
    go true true le = omega (arith, le)
    go true false le = omega (arith, le)
    go false true le = omega (arith, le)
    go false false le = le

few_of : (ms : List ℕ) (seq leaf first leaves : ℕ) (es : List CarriedData) → Ascends seq leaf first leaves es → length (filter (λ e. list_any (λ m. m == e.frame.seq) ms) es) ≤ length ms
few_of [] seq leaf first leaves es h = let e = none es in omega (arith, e)
  where
    none : (es : List CarriedData) → length (filter (λ e. list_any (λ m. m == e.frame.seq) []) es) ≡ 0
    none [] = refl
    none (e ∷ es) = none es
few_of (m ∷ ms) seq leaf first leaves es h =
    let one = one_of m seq leaf first leaves es h in
    let more = few_of ms seq leaf first leaves es h in
    let all = either_of (λ e. m == e.frame.seq) (λ e. list_any (λ k. k == e.frame.seq) ms) es in
    omega (arith, one, more, all)

-- ---- numbers of few rows

number_few : (o : Option CarriedData) → length (number_of o) ≤ 1
number_few None = omega arith
number_few (Some e) = omega arith

row_few : (es : List CarriedData) (p : Peer) → length (row_numbers es p) ≤ 2
row_few es p =
    let sends = few (p.sent == p.acked) (last_that (is_send_of p.id p.sent) es) in
    let recvs = few (p.received == 0) (last_that (λ e. is_recv_from p.id (read e)) es) in
    let all = length-append (cond (p.sent == p.acked) [] (number_of (last_that (is_send_of p.id p.sent) es))) (cond (p.received == 0) [] (number_of (last_that (λ e. is_recv_from p.id (read e)) es))) in
    omega (arith, sends, recvs, all)
  where
    few : (b : Bool) (o : Option CarriedData) → length (cond b [] (number_of o)) ≤ 1
    few true o = omega arith
    few false o = number_few o

rows_few : (es : List CarriedData) (ps : List Peer) → length (flat_map (row_numbers es) ps) ≤ 2 * length ps
rows_few es [] = omega arith
rows_few es (p ∷ ps) =
    let one = row_few es p in
    let more = rows_few es ps in
    let all = length-append (row_numbers es p) (flat_map (row_numbers es) ps) in
    omega (arith, one, more, all)

-- ---- few rows

record IsLow (own low : ℕ) (p : Peer) : Type 0 where
  ascends : low ≤ p.id
  small : p.id < 16
  other : (p.id == own) ≡ false

row_low : (own low : ℕ) (p : Peer) (ps : List Peer) → are_rows own low (p ∷ ps) ≡ true → IsLow own low p × (are_rows own (p.id + 1) ps ≡ true)
row_low own low p ps h =
    let a = and_true (nat_le low p.id && is_row own p) (are_rows own (p.id + 1) ps) h in
    let b = and_true (nat_le low p.id) (is_row own p) a.0 in
    let c = and_true _ _ b.1 in
    let d = and_true _ _ c.0 in
    let e = and_true _ _ d.0 in
    let f = and_true (nat_lt p.id 16) (not (p.id == own)) e.0 in
    (record { ascends = leb-true low p.id b.0; small = ltb-true p.id 16 f.0; other = flipped (p.id == own) f.1 }, a.1)
  where
    flipped : (b : Bool) → not b ≡ true → b ≡ false
    flipped true q = absurd cc
    flipped false q = refl

below_16 : (own low : ℕ) (ps : List Peer) → low ≤ 16 → are_rows own low ps ≡ true → low + length ps ≤ 16
below_16 own low [] le h = omega (arith, le)
below_16 own low (p ∷ ps) le h =
    let r = row_low own low p ps h in
    let a = r.0.ascends in
    let b = r.0.small in
    let more = below_16 own (p.id + 1) ps (omega (arith, b)) r.1 in
    omega (arith, a, more)

below_15 : (own low : ℕ) (ps : List Peer) → own < 16 → low ≤ own → are_rows own low ps ≡ true → low + length ps ≤ 15
below_15 own low [] small le h = omega (arith, small, le)
below_15 own low (p ∷ ps) small le h = go (row_low own low p ps h) (λ lt q. below_15 own (p.id + 1) ps small (omega (arith, lt)) q) (cases_lt p.id own)
  where
    go : IsLow own low p × (are_rows own (p.id + 1) ps ≡ true) → (p.id < own → are_rows own (p.id + 1) ps ≡ true → p.id + 1 + length ps ≤ 15) → (p.id < own) ⊎ (own ≤ p.id) → low + length (p ∷ ps) ≤ 15
    go r next (inl lt) =
        let a = r.0.ascends in
        let more = next lt r.1 in
        omega (arith, a, more)
    go r next (inr ge) =
        let a = r.0.ascends in
        let b = r.0.small in
        let apart : own < p.id = past (cases_lt own p.id) r.0.other ge in
        let more = below_16 own (p.id + 1) ps (omega (arith, b)) r.1 in
        omega (arith, a, more, apart, le)
      where
        past : (own < p.id) ⊎ (p.id ≤ own) → (p.id == own) ≡ false → own ≤ p.id → own < p.id
        past (inl lt) e ge = lt
        past (inr le) e ge = let q = eq-eqb p.id own (omega (arith, le, ge)) in absurd cc

true_is : (b : Bool) → IsTrue b → b ≡ true
true_is true h = refl
true_is false h = absurd cc

pub carried_few : (j : JournalData) (n : ℕ) (s : State) (own : ℕ) → HasSpelling j → has_snap n (entries j) ≡ true → own < 16 → IsTrue (are_rows own 0 s.devices.peers) → length (carried_of j n s) ≤ 30
unfolding carried_of
carried_few j n s own h snap small rows =
    let a = few_of (flat_map (row_numbers (earlier n j)) s.devices.peers) 0 0 n (j.header.leaves + signing (before_entry n (parts j))) (earlier n j) (earlier_ascend j n h snap) in
    let b = rows_few (earlier n j) s.devices.peers in
    let c = below_15 own 0 s.devices.peers small (omega arith) (true_is (are_rows own 0 s.devices.peers) rows) in
    omega (arith, a, b, c)
