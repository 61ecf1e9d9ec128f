-- A cursor between the header and the last gate: the record that stands there is the journal's next.
use Rattle.std.proofs.Common.{◌≡◌, ℕ, ◌+◌, ◌≤◌, true, false, ◌&&◌, not, nat_le, nat_lt, List, [], ◌∷◌, ◌++◌, length, take, drop, get_or, ◌^◌, Option, Some, None, is_none, refl, sym, ap, subst, ◌∙◌, arith, append_assoc, append-nil, length-append, take-append-drop, le-leb, lt-ltb, leb-true, ltb-true}
use Rattle.std.specs.Int.{w32}
use Rattle.std.proofs.lemmas.List.{take_at, take-append-le}
use Rattle.avm_num.specs.Bytes.{number_at}
use Rattle.avm_num.specs.Lists.{be, sized_at, sized_bytes}
use Rattle.avm_num.specs.Walk.{is_nil}
use Rattle.avm_num.proofs.Numbers.{bind_some, kept_some, and_true}
use Rattle.avm_num.proofs.Fields.{reads_32, reads_sized}
use Rattle.journal_model.specs.Journal.{JournalData, Gate, HasRoom, has_room, longest_record, joined, items_at, next_gate, is_open, Is, Damaged, ended, journal_from, IsFront}
use Rattle.journal_model.proofs.Gates.{from_damaged, from_closed}
use Rattle.avm_num.proofs.Locals.{sized_again}
use Rattle.journal_model.proofs.Prefixes.{before_last, at_last, ended_is}

-- what stands in front of the same bytes is the same
same_front : (x y z w : List ℕ) → x ++ z ≡ y ++ w → z ≡ w → x ≡ y
same_front x y z w e tails =
    let a : length (x ++ z) ≡ length (y ++ w) = ap length e in
    let b : length z ≡ length w = ap length tails in
    let n : length y ≡ length x = omega (arith, a, b, length-append x z, length-append y w) in
    sym (take_at x z (length x) refl) ∙ ap (take (length x)) e ∙ take_at y w (length x) n

-- the record at an open gate in front of a byte that closes the bytes
record_within : (place : ℕ) (ts : List ℕ) (p : List ℕ × List ℕ) → items_at place (ts ++ 0 ∷ []) ≡ Some p → (f : List ℕ) × (tail : List ℕ) × (ts ≡ f ++ tail) × ((more : List ℕ) → sized_at (number_at w32) (f ++ more) ≡ Some (p.0, more))
unfolding items_at
record_within place ts p e =
    let a = bind_some (sized_at (number_at w32) (ts ++ 0 ∷ [])) _ p e in
    let k = kept_some (has_room place a.0.0 a.0.1) a.0 p a.2 in
    let t = and_true (nat_le 1 (length a.0.0) && nat_le (length a.0.0) longest_record && not (is_nil a.0.1)) (nat_lt (place + 5 + length a.0.0) (2 ^ 30)) k.0 in
    let u = and_true (nat_le 1 (length a.0.0) && nat_le (length a.0.0) longest_record) (not (is_nil a.0.1)) t.0 in
    let s = sized_again (ts ++ 0 ∷ []) a.0 a.1 in
    let some : 1 ≤ length a.0.1 = not_nil a.0.1 u.1 in
    let len : length (ts ++ 0 ∷ []) ≡ length (s.0 ++ a.0.1) = ap length s.1 in
    let short : length s.0 ≤ length ts = omega (arith, len, some, length-append ts (0 ∷ []), length-append s.0 a.0.1) in
    let front : take (length s.0) ts ≡ s.0 = sym (take-append-le (length s.0) ts (0 ∷ []) short) ∙ ap (take (length s.0)) s.1 ∙ take_at s.0 a.0.1 (length s.0) refl in
    (s.0, drop (length s.0) ts, sym (take-append-drop (length s.0) ts) ∙ ap (λ (l : List ℕ). l ++ drop (length s.0) ts) front, λ more. s.2 more ∙ ap (λ (q : List ℕ × List ℕ). Some (q.0, more)) k.1)
  where
    not_nil : (bytes : List ℕ) → not (is_nil bytes) ≡ true → 1 ≤ length bytes
    not_nil [] h = absurd cc
    not_nil (b ∷ bytes) h = omega arith

pub room_of : (place : ℕ) (bytes : List ℕ) (p : List ℕ × List ℕ) → items_at place bytes ≡ Some p → HasRoom place p.0
unfolding items_at
room_of place bytes p e =
    let a = bind_some (sized_at (number_at w32) bytes) _ p e in
    let k = kept_some (has_room place a.0.0 a.0.1) a.0 p a.2 in
    let t = and_true (nat_le 1 (length a.0.0) && nat_le (length a.0.0) longest_record && not (is_nil a.0.1)) (nat_lt (place + 5 + length a.0.0) (2 ^ 30)) k.0 in
    let u = and_true (nat_le 1 (length a.0.0) && nat_le (length a.0.0) longest_record) (not (is_nil a.0.1)) t.0 in
    let v = and_true (nat_le 1 (length a.0.0)) (nat_le (length a.0.0) longest_record) u.0 in
    subst (λ (q : List ℕ × List ℕ). HasRoom place q.0) k.1 (record { some = leb-true _ _ v.0; few = leb-true _ _ v.1; below = ltb-true _ _ t.1 })

pub record IsNext (i : JournalData) (front whole items : List ℕ) : Type 0 where
  pub next : JournalData
  pub joins : joined i items ≡ Some next
  pub unmarked : i.mark ≡ None
  pub tail : List ℕ
  pub read : whole ≡ (front ++ 1 ∷ sized_bytes (be w32) items) ++ tail

none_is : (o : Option ℕ) → is_none o ≡ true → o ≡ None
none_is None e = refl
none_is (Some n) e = absurd cc

pub cursor_end : (i j : JournalData) (front tail whole : List ℕ) → IsFront i front → IsFront j whole → whole ≡ front ++ tail → tail ≡ [] → ended j ≡ Is j → i ≡ j
cursor_end i j front tail whole is last parts_are nil begun =
    let same : whole ≡ front = parts_are ∙ ap (λ (l : List ℕ). front ++ l) nil ∙ append-nil front in
    at_last i j front is (subst (λ (l : List ℕ). IsFront j l) same last) begun

pub cursor_next : (i j : JournalData) (front : List ℕ) (b : ℕ) (ts whole more items : List ℕ) (c : ℕ) (rest : List ℕ) → IsFront i front → IsFront j whole → whole ≡ front ++ b ∷ ts → ended j ≡ Is j
    → b ∷ (ts ++ more) ≡ 1 ∷ (sized_bytes (be w32) items ++ c ∷ rest) → HasRoom (length front) items → IsNext i front whole items
unfolding next_gate
cursor_next i j front b ts whole more items c rest is last parts_are begun found room = go (next_gate g) refl
  where
    g : Gate
    g = record { journal = i; place = length front; bytes = 1 ∷ (ts ++ 0 ∷ []) }

    one : b ≡ 1
    one = ap (λ (l : List ℕ). get_or l 0 0) found

    behind : ts ++ more ≡ sized_bytes (be w32) items ++ c ∷ rest
    behind = ap (drop 1) found

    towards : journal_from (record { journal = i; place = length front; bytes = 1 ∷ (ts ++ 0 ∷ []) }) ≡ Is j
    towards = subst (λ (n : ℕ). journal_from (record { journal = i; place = length front; bytes = n ∷ (ts ++ 0 ∷ []) }) ≡ Is j) one (before_last i j front whole b ts is last parts_are begun)

    go : (r : Option Gate) → next_gate (record { journal = i; place = length front; bytes = 1 ∷ (ts ++ 0 ∷ []) }) ≡ r → IsNext i front whole items
    go None e = absurd (let d = from_damaged (record { journal = i; place = length front; bytes = 1 ∷ (ts ++ 0 ∷ []) }) refl e in let no_journal : Damaged (length front) ≡ Is j = sym d ∙ towards in cc)
    go (Some h) e =
        let a = bind_some (items_at (length front) (ts ++ 0 ∷ [])) _ h e in
        let x = bind_some (joined i a.0.0) _ h a.2 in
        let k = kept_some (is_none i.mark) (record { journal = x.0; place = length front + 5 + length a.0.0; bytes = a.0.1 }) h x.2 in
        let w = record_within (length front) ts a.0 a.1 in
        let bytes : w.0 ++ (w.1 ++ more) ≡ sized_bytes (be w32) items ++ c ∷ rest = sym (append_assoc w.0 w.1 more) ∙ ap (λ (l : List ℕ). l ++ more) (sym w.2) ∙ behind in
        let both : Some (a.0.0, w.1 ++ more) ≡ Some (items, c ∷ rest) = sym (w.3 (w.1 ++ more)) ∙ ap (sized_at (number_at w32)) bytes ∙ (reads_sized reads_32).again items (c ∷ rest) (let few = room.few in omega (arith, few)) in
        let pair : (a.0.0, w.1 ++ more) ≡ (items, c ∷ rest) = cc in
        let same : a.0.0 ≡ items = ap (λ (q : List ℕ × List ℕ). q.0) pair in
        let front_is : w.0 ≡ sized_bytes (be w32) items = same_front w.0 (sized_bytes (be w32) items) (w.1 ++ more) (c ∷ rest) bytes (ap (λ (q : List ℕ × List ℕ). q.1) pair) in
        record {
          next = x.0;
          joins = ap (joined i) (sym same) ∙ x.1;
          unmarked = none_is i.mark k.0;
          tail = w.1;
          read = parts_are ∙ ap (λ (n : ℕ). front ++ n ∷ ts) one ∙ ap (λ (l : List ℕ). front ++ 1 ∷ l) (w.2 ∙ ap (λ (l : List ℕ). l ++ w.1) front_is) ∙ sym (append_assoc front (1 ∷ sized_bytes (be w32) items) w.1);
        }

-- before the last gate the gates are open, and items stand behind them
pub cursor_some : (i j : JournalData) (front : List ℕ) (ts whole : List ℕ) (g : ℕ) (more : List ℕ) → IsFront i front → IsFront j whole → whole ≡ front ++ 1 ∷ ts → ended j ≡ Is j → items_at (length front) (ts ++ g ∷ more) ≡ None → ⊥
unfolding next_gate items_at
cursor_some i j front ts whole g more is last parts_are begun none = go (next_gate (record { journal = i; place = length front; bytes = 1 ∷ (ts ++ 0 ∷ []) })) refl
  where
    towards : journal_from (record { journal = i; place = length front; bytes = 1 ∷ (ts ++ 0 ∷ []) }) ≡ Is j
    towards = before_last i j front whole 1 ts is last parts_are begun

    never : (p : List ℕ × List ℕ) → None ≡ Some p → ⊥
    never p e = cc

    nonempty : (l : List ℕ) → is_nil (l ++ g ∷ more) ≡ false
    nonempty [] = refl
    nonempty (x ∷ l) = refl

    go : (r : Option Gate) → next_gate (record { journal = i; place = length front; bytes = 1 ∷ (ts ++ 0 ∷ []) }) ≡ r → ⊥
    go None e = let d = from_damaged (record { journal = i; place = length front; bytes = 1 ∷ (ts ++ 0 ∷ []) }) refl e in let no_journal : Damaged (length front) ≡ Is j = sym d ∙ towards in cc
    go (Some h) e =
        let a = bind_some (items_at (length front) (ts ++ 0 ∷ [])) _ h e in
        let w = record_within (length front) ts a.0 a.1 in
        let room = room_of (length front) (ts ++ 0 ∷ []) a.0 a.1 in
        let read : sized_at (number_at w32) (ts ++ g ∷ more) ≡ Some (a.0.0, w.1 ++ g ∷ more) = ap (λ (l : List ℕ). sized_at (number_at w32) (l ++ g ∷ more)) w.2 ∙ ap (sized_at (number_at w32)) (append_assoc w.0 w.1 (g ∷ more)) ∙ w.3 (w.1 ++ g ∷ more) in
        let fits : has_room (length front) a.0.0 (w.1 ++ g ∷ more) ≡ true = rw (le-leb _ _ room.some, le-leb _ _ room.few, nonempty w.1, lt-ltb _ _ room.below) refl in
        let some : items_at (length front) (ts ++ g ∷ more) ≡ Some (a.0.0, w.1 ++ g ∷ more) = rw (read, fits) refl in
        absurd (never (a.0.0, w.1 ++ g ∷ more) (sym none ∙ some))

-- and where a gate is closed, the journal is whole
pub cursor_shut : (i j : JournalData) (front : List ℕ) (b : ℕ) (ts whole : List ℕ) → IsFront i front → IsFront j whole → whole ≡ front ++ b ∷ ts → ended j ≡ Is j → is_open (b ∷ []) ≡ false → i ≡ j
cursor_shut i j front b ts whole is last parts_are begun shut =
    ended_is i j (sym (from_closed (record { journal = i; place = length front; bytes = b ∷ (ts ++ 0 ∷ []) }) shut) ∙ before_last i j front whole b ts is last parts_are begun)
