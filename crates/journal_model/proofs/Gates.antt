-- Reading from gate to gate.
use Rattle.std.proofs.Common.{◌≡◌, ℕ, zero, suc, ◌+◌, ◌^◌, ◌<◌, ◌≤◌, Bool, true, false, ◌&&◌, not, cond, nat_lt, nat_le, List, [], ◌∷◌, ◌++◌, length, drop, Option, Some, None, is_none, refl, sym, ap, ◌∙◌, arith, append_assoc, lt-ltb, le-leb, leb-true, ltb-true, ltb, take}
use Rattle.std.specs.Int.{w32}
use Rattle.std.proofs.lemmas.List.{length-drop, length-append, length-take-le}
use Rattle.std.proofs.lemmas.Bool.{ltb-false}
use Rattle.avm_num.specs.Bytes.{◌>>=◌, number_at, piece_at, kept}
use Rattle.avm_num.specs.Lists.{be, sized_at, sized_bytes}
use Rattle.avm_num.specs.Walk.{is_nil}
use Rattle.avm_num.proofs.Numbers.{bind_some, kept_some, short_some, and_true}
use Rattle.avm_num.proofs.Fields.{reads_32, reads_sized}
use Rattle.avm_model.proofs.PartLengths.{sized_rest, piece_rest}
use Rattle.journal_model.specs.Journal.{JournalData, Gate, is_open, longest_record, has_room, HasRoom, items_at, joined, next_gate, Damaged, ended, passed, walk_gates, journal_from, IsFront}

items_rest : (place : ℕ) (bytes : List ℕ) (p : List ℕ × List ℕ) → items_at place bytes ≡ Some p → length p.1 ≤ length bytes
unfolding items_at
items_rest place bytes p e =
    let a = bind_some (sized_at (number_at w32) bytes) _ p e in
    let k = kept_some _ a.0 p a.2 in
    let r : length a.0.1 ≡ length p.1 = ap (λ (q : List ℕ × List ℕ). length q.1) k.1 in
    omega (arith, r, sized_rest bytes a.0 a.1)

-- the next gate has fewer bytes, where the gate's byte is there
pub gate_shortens : (g h : Gate) → next_gate g ≡ Some h → is_open g.bytes ≡ true → length h.bytes < length g.bytes
unfolding next_gate
gate_shortens g h e open_gate =
    let a = bind_some (items_at g.place (drop 1 g.bytes)) _ h e in
    let b = bind_some (joined g.journal a.0.0) _ h a.2 in
    let k = kept_some _ _ h b.2 in
    let r : length a.0.1 ≡ length h.bytes = ap (λ (q : Gate). length q.bytes) k.1 in
    let some : 1 ≤ length g.bytes = begun g.bytes open_gate in
    omega (arith, r, some, items_rest g.place (drop 1 g.bytes) a.0 a.1, length-drop 1 g.bytes)
  where
    begun : (bytes : List ℕ) → is_open bytes ≡ true → 1 ≤ length bytes
    begun [] e = absurd cc
    begun (b ∷ bytes) e = omega arith

-- more fuel than bytes changes nothing
enough : (n m : ℕ) (g : Gate) → length g.bytes ≤ n → length g.bytes ≤ m → walk_gates n g ≡ walk_gates m g
enough zero zero g a b = refl
enough zero (suc m) g a b = empty g.bytes refl
  where
    empty : (bytes : List ℕ) → g.bytes ≡ bytes → ended g.journal ≡ cond (is_open g.bytes) (passed g.place (next_gate g) (walk_gates m)) (ended g.journal)
    empty [] e = rw e refl
    empty (x ∷ bytes) e = absurd (let l : length g.bytes ≡ length (x ∷ bytes) = ap length e in omega (arith, l))
enough (suc n) zero g a b = empty g.bytes refl
  where
    empty : (bytes : List ℕ) → g.bytes ≡ bytes → cond (is_open g.bytes) (passed g.place (next_gate g) (walk_gates n)) (ended g.journal) ≡ ended g.journal
    empty [] e = rw e refl
    empty (x ∷ bytes) e = absurd (let l : length g.bytes ≡ length (x ∷ bytes) = ap length e in omega (arith, l))
enough (suc n) (suc m) g a b = gate (λ h. enough n m h) (is_open g.bytes) refl
  where
    Same : Type 0
    Same = (h : Gate) → length h.bytes ≤ n → length h.bytes ≤ m → walk_gates n h ≡ walk_gates m h

    go : Same → is_open g.bytes ≡ true → (r : Option Gate) → next_gate g ≡ r → passed g.place r (walk_gates n) ≡ passed g.place r (walk_gates m)
    go same is None e = refl
    go same is (Some h) e = let s = gate_shortens g h e is in same h (omega (arith, s)) (omega (arith, s))

    gate : Same → (o : Bool) → is_open g.bytes ≡ o → cond o (passed g.place (next_gate g) (walk_gates n)) (ended g.journal) ≡ cond o (passed g.place (next_gate g) (walk_gates m)) (ended g.journal)
    gate same true e = go same e (next_gate g) refl
    gate same false e = refl

-- a closed gate ends the journal
pub from_closed : (g : Gate) → is_open g.bytes ≡ false → journal_from g ≡ ended g.journal
unfolding journal_from
from_closed g e = enough (length g.bytes) (suc (length g.bytes)) g (omega arith) (omega arith) ∙ rw e refl

-- behind an open one stands a record
pub from_open : (g h : Gate) → is_open g.bytes ≡ true → next_gate g ≡ Some h → journal_from g ≡ journal_from h
unfolding journal_from
from_open g h e some =
    let s = gate_shortens g h some e in
    let one : walk_gates (suc (length g.bytes)) g ≡ walk_gates (length g.bytes) h = rw (e, some) refl in
    enough (length g.bytes) (suc (length g.bytes)) g (omega arith) (omega arith) ∙ one ∙ enough (length g.bytes) (length h.bytes) h (omega (arith, s)) (omega arith)

-- or none
pub from_damaged : (g : Gate) → is_open g.bytes ≡ true → next_gate g ≡ None → journal_from g ≡ Damaged g.place
unfolding journal_from
from_damaged g e none = enough (length g.bytes) (suc (length g.bytes)) g (omega arith) (omega arith) ∙ rw (e, none) refl

-- ---- a record that is written

pub items_written : (place : ℕ) (items : List ℕ) (b : ℕ) (rest : List ℕ) → HasRoom place items → items_at place (sized_bytes (be w32) items ++ b ∷ rest) ≡ Some (items, b ∷ rest)
unfolding items_at
items_written place items b rest room =
    let again = (reads_sized reads_32).again items (b ∷ rest) (omega (arith, room.few)) in
    let fits : has_room place items (b ∷ rest) ≡ true = rw (le-leb _ _ room.some, le-leb _ _ room.few, lt-ltb _ _ room.below) refl in
    rw (again, fits) refl

pub next_written : (j next : JournalData) (place gate : ℕ) (items : List ℕ) (b : ℕ) (rest : List ℕ) → joined j items ≡ Some next → j.mark ≡ None → HasRoom place items
    → next_gate (record { journal = j; place = place; bytes = gate ∷ (sized_bytes (be w32) items ++ b ∷ rest) }) ≡ Some (record { journal = next; place = place + 5 + length items; bytes = b ∷ rest })
unfolding next_gate
next_written j next place gate items b rest e unmarked room = rw (items_written place items b rest room, e, unmarked) refl

-- no record stands behind the gate: where items don't join, behind a mark, and where there are no items
pub next_refused : (j : JournalData) (place gate : ℕ) (items : List ℕ) (b : ℕ) (rest : List ℕ) → joined j items ≡ None → HasRoom place items → next_gate (record { journal = j; place = place; bytes = gate ∷ (sized_bytes (be w32) items ++ b ∷ rest) }) ≡ None
unfolding next_gate
next_refused j place gate items b rest e room = rw (items_written place items b rest room, e) refl

pub next_marked : (j : JournalData) (place gate : ℕ) (bytes : List ℕ) (n : ℕ) → j.mark ≡ Some n → next_gate (record { journal = j; place = place; bytes = gate ∷ bytes }) ≡ None
unfolding next_gate
next_marked j place gate bytes n marked = go (is_none j.mark) (ap is_none marked) (items_at place bytes)
  where
    behind : Bool → List ℕ × List ℕ → JournalData → Option Gate
    behind unmarked items next = kept unmarked (record { journal = next; place = place + 5 + length items.0; bytes = items.1 })

    inner : (x : Option JournalData) (items : List ℕ × List ℕ) → (x >>= behind false items) ≡ None
    inner None items = refl
    inner (Some next) items = refl

    go : (t : Bool) → t ≡ false → (r : Option (List ℕ × List ℕ)) → (r >>= λ items. joined j items.0 >>= behind t items) ≡ None
    go true is r = absurd cc
    go false is None = refl
    go false is (Some items) = inner (joined j items.0) items

pub next_lacking : (j : JournalData) (place gate : ℕ) (bytes : List ℕ) → items_at place bytes ≡ None → next_gate (record { journal = j; place = place; bytes = gate ∷ bytes }) ≡ None
unfolding next_gate
next_lacking j place gate bytes e = rw e refl

pub length_sized : (items : List ℕ) → length (sized_bytes (be w32) items) ≡ 4 + length items
unfolding be
length_sized items = omega (arith, length-append (be w32 (length items)) items)

-- a front with a record behind it is a front
pub front_goes : (j next : JournalData) (front items : List ℕ) → IsFront j front → joined j items ≡ Some next → j.mark ≡ None → HasRoom (length front) items → IsFront next (front ++ 1 ∷ sized_bytes (be w32) items)
front_goes j next front items is e unmarked room gate rest =
    let g : Gate = record { journal = j; place = length front; bytes = 1 ∷ (sized_bytes (be w32) items ++ gate ∷ rest) } in
    let h : Gate = record { journal = next; place = length front + 5 + length items; bytes = gate ∷ rest } in
    let place : length (front ++ 1 ∷ sized_bytes (be w32) items) ≡ length front + 5 + length items = omega (arith, length-append front (1 ∷ sized_bytes (be w32) items), length_sized items) in
    let bytes : (front ++ 1 ∷ sized_bytes (be w32) items) ++ gate ∷ rest ≡ front ++ 1 ∷ (sized_bytes (be w32) items ++ gate ∷ rest) = append_assoc front (1 ∷ sized_bytes (be w32) items) (gate ∷ rest) in
    rw (bytes, place) (is 1 (sized_bytes (be w32) items ++ gate ∷ rest) ∙ from_open g h refl (next_written j next (length front) 1 items gate rest e unmarked room))

-- where items stand behind a length, they fit
pub items_fit : (place size : ℕ) (rest : List ℕ) (p : List ℕ × List ℕ) → size < 2 ^ 32 → items_at place (be w32 size ++ rest) ≡ Some p → (1 ≤ size) × (size ≤ longest_record) × (place + 5 + size < 2 ^ 30) × (size < length rest)
unfolding items_at
items_fit place size rest p small e =
    let number : (sized_at (number_at w32) (be w32 size ++ rest) >>= λ items. kept (has_room place items.0 items.1) items) ≡ (piece_at size rest >>= λ items. kept (has_room place items.0 items.1) items) = rw (reads_32.again size rest small) refl in
    let a = bind_some (piece_at size rest) _ p (sym number ∙ e) in
    let k = kept_some (has_room place a.0.0 a.0.1) a.0 p a.2 in
    let t = and_true (nat_le 1 (length a.0.0) && nat_le (length a.0.0) longest_record && not (is_nil a.0.1)) (nat_lt (place + 5 + length a.0.0) (2 ^ 30)) k.0 in
    let u = and_true (nat_le 1 (length a.0.0) && nat_le (length a.0.0) longest_record) (not (is_nil a.0.1)) t.0 in
    let v = and_true (nat_le 1 (length a.0.0)) (nat_le (length a.0.0) longest_record) u.0 in
    let len = piece_rest size rest a.0 a.1 in
    let n : length a.0.0 ≡ size = piece_length size rest a.0 a.1 in
    let some : 1 ≤ length a.0.1 = not_nil a.0.1 u.1 in
    (omega (arith, leb-true _ _ v.0, n), omega (arith, leb-true _ _ v.1, n), omega (arith, ltb-true _ _ t.1, n), omega (arith, len, some))
  where
    not_nil : (bytes : List ℕ) → not (is_nil bytes) ≡ true → 1 ≤ length bytes
    not_nil [] h = absurd cc
    not_nil (b ∷ bytes) h = omega arith

    piece_length : (n : ℕ) (bytes : List ℕ) (p : List ℕ × List ℕ) → piece_at n bytes ≡ Some p → length p.0 ≡ n
    piece_length n bytes p e =
        let g = short_some (ltb (length bytes) n) (take n bytes, drop n bytes) p e in
        let r : length p.0 ≡ length (take n bytes) = ap (λ (q : List ℕ × List ℕ). length q.0) (sym g.1) in
        omega (arith, r, length-take-le n bytes (ltb-false _ _ g.0))

none_if : {A : Type 0} (o : Option A) → ((x : A) → o ≡ Some x → ⊥) → o ≡ None
none_if None never = refl
none_if (Some x) never = absurd (never x refl)

pub items_none : (place size : ℕ) (rest : List ℕ) → size < 2 ^ 32 → ((1 ≤ size) × (size ≤ longest_record) × (place + 5 + size < 2 ^ 30) × (size < length rest) → ⊥) → items_at place (be w32 size ++ rest) ≡ None
items_none place size rest small never = none_if (items_at place (be w32 size ++ rest)) (λ p e. never (items_fit place size rest p small e))

pub items_cut : (place : ℕ) (rest : List ℕ) → length rest < 4 → items_at place rest ≡ None
unfolding items_at
items_cut place rest few = let cut : number_at w32 rest ≡ None = rw (lt-ltb (length rest) 4 few) refl in rw cut refl
