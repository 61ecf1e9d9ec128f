-- A journal that gets the mark, on its own disk.
use Rattle.std.proofs.Common.{◌≡◌, inl, inr, ℕ, ◌+◌, ◌<◌, ◌^◌, true, false, Bool, refl, sym, ◌∙◌, ap, subst, Option, None, Some, IfSome, List, [], ◌∷◌, ◌++◌, length, nat_lt, arith, length-append, append_assoc, append-nil, ltb-true}
use Rattle.std.specs.Int.{w32, w64}
use Rattle.std.proofs.lemmas.Bool.{ltb-false}
use Rattle.avm_num.specs.Bytes.{number_at}
use Rattle.avm_num.specs.Lists.{be, sized_bytes}
use Rattle.avm_num.proofs.Fields.{reads_64}
use Rattle.avm_num.proofs.Lengths.{be64}
use Rattle.avm_outside.specs.Outside.{BothTold}
use Rattle.avm_outside.specs.Moments.{LeavesOnly, IsShut}
use Rattle.avm_outside.proofs.Runs.{weaker, started}
use Rattle.journal_model.specs.Journal.{JournalData, HasRoom, entries, has_snap, joined, with_mark, mark_at}
use Rattle.journal_model.specs.Spelling.{mark_items}
use Rattle.journal_model.proofs.Gates.{length_sized, front_goes}
use Rattle.jrnl_store.proofs.Commits.{own_at, shut_stands, written_stands}
use Rattle.jrnl_store.proofs.LastGate.{joined_gate}
use Rattle.jrnl_store.proofs.Steps.{base_more, has_record, standing_marked}
use Rattle.jrnl_store.specs.Writing.{IsWritten, IsShutOrWritten, Each, staged}
use Rattle.jrnl_store.specs.Kept.{Kept}
use Rattle.jrnl_store.specs.Own.{IsAt, IsOwn, IsFull}
use Rattle.jrnl_store.specs.Retiring.{with_mark_at, StandsForMarked}

pub mark_joins : (j : JournalData) (n : ℕ) → n < 2 ^ 64 → has_snap n (entries j) ≡ true → joined j (mark_items n) ≡ Some (with_mark_at j n)
unfolding joined with_mark mark_at
mark_joins j n low e =
    let read : number_at w64 (be w64 n) ≡ Some (n, []) = ap (number_at w64) (sym (append-nil (be w64 n))) ∙ reads_64.again n [] low in
    rw (read, e) refl

nine : (n : ℕ) → length (mark_items n) ≡ 9
nine n = omega (arith, be64 n)

room_for : (k : Kept) (n : ℕ) (front : List ℕ) → (IsFull k (mark_items n) → ⊥) → length front ≡ k.gate → HasRoom (length front) (mark_items n)
room_for k n front room place = record { some = omega (arith, nine n); few = omega (arith, nine n); below = go (nat_lt (length front + 5 + length (mark_items n)) (2 ^ 30)) refl }
  where
    go : (t : Bool) → nat_lt (length front + 5 + length (mark_items n)) (2 ^ 30) ≡ t → length front + 5 + length (mark_items n) < 2 ^ 30
    go true e = ltb-true _ _ e
    go false e = absurd (room (let f = ltb-false _ _ e in omega (arith, f, place)))

-- an image of a moment of the call
either : (k : Kept) (n : ℕ) (images : List ℕ → Type 0) (was : List ℕ) (j : JournalData) → n < 2 ^ 64 → k.mark ≡ None → (IsFull k (mark_items n) → ⊥) → (o : IsOwn k images was j) → has_snap n (entries j) ≡ true
    → (c : List ℕ) → IsShutOrWritten o.front (staged (mark_items n)) c → StandsForMarked j n c
either k n images was j low unmarked room o snap c (inl shut) = inl (shut_stands j o.front c o.stands o.begun shut)
either k n images was j low unmarked room o snap c (inr w) =
    inr (written_stands j (with_mark_at j n) o.front (mark_items n) c o.stands (mark_joins j n low snap) (sym o.keeps.mark ∙ unmarked) (room_for k n o.front room o.place) (has_record j (with_mark_at j n) n snap refl) w)

module _ {D : Type 0} (moment : D → ℕ) (left_since : D → ℕ → List ℕ → Type 0) where
  pub marks_told : (told : Option (List ℕ)) (k : Kept) (n : ℕ) (items : List ℕ) (images : List ℕ → Type 0) (old new : D) → items ≡ mark_items n → n < 2 ^ 64 → k.mark ≡ None → (IsFull k items → ⊥)
      → IfSome told (λ was. (front : List ℕ) → length front ≡ k.gate → IsShut front was → Each images (IsShut front) → LeavesOnly moment left_since old new (IsShutOrWritten front (staged items)))
      → IfSome told (λ was. (j : JournalData) → IsOwn k images was j → has_snap n (entries j) ≡ true → k.stop ≡ None → LeavesOnly moment left_since old new (StandsForMarked j n))
  marks_told None k n items images old new is low unmarked room part = tt
  marks_told (Some was) k n items images old new is low unmarked room part = λ j o snap run.
      weaker moment left_since old new _ _ (λ c w. either k n images was j low unmarked (subst (λ (l : List ℕ). IsFull k l → ⊥) is room) o snap c (subst (λ (l : List ℕ). IsShutOrWritten o.front (staged l) c) is w)) (part o.front o.place (o.shut run) (o.left_shut run))

  -- where nothing was written
  pub still_told : (told : Option (List ℕ)) (k : Kept) (n : ℕ) (may_leave : D → List ℕ → Type 0) (old : D) → ((d : D) (c : List ℕ) → left_since d (moment d) c → may_leave d c)
      → IfSome told (λ was. (j : JournalData) → IsOwn k (may_leave old) was j → has_snap n (entries j) ≡ true → k.stop ≡ None → LeavesOnly moment left_since old old (StandsForMarked j n))
  still_told None k n may_leave old only_now = tt
  still_told (Some was) k n may_leave old only_now = λ j o snap run.
      started moment left_since old (StandsForMarked j n) (λ c left. inl (shut_stands j o.front c o.stands o.begun (o.left_shut run c (only_now old c left))))

-- after the last sync
own_marked : (k new : Kept) (n : ℕ) (after : List ℕ → Type 0) (was now : List ℕ) (j : JournalData) → n < 2 ^ 64 → k.mark ≡ None → (IsFull k (mark_items n) → ⊥) → k.stop ≡ None → new ≡ record k { gate = k.gate + 5 + 9; mark = Some n }
    → has_snap n (entries j) ≡ true → (o : IsAt k was j) → IsWritten o.front (staged (mark_items n)) now → Each after (λ c. c ≡ now) → IsOwn new after now (with_mark_at j n)
own_marked k new n after was now j low unmarked room run is snap o w only =
    let items = mark_items n in
    let record_bytes = sized_bytes (be w32) items in
    let front = o.front ++ 1 ∷ record_bytes in
    let next = with_mark_at j n in
    let joins = mark_joins j n low snap in
    let none : j.mark ≡ None = sym o.keeps.mark ∙ unmarked in
    let size : length front ≡ k.gate + 5 + 9 = omega (arith, length-append o.front (1 ∷ record_bytes), length_sized items, o.place, nine n) in
    let bytes : now ≡ front ++ 0 ∷ w.0 = w.1 ∙ ap (λ (l : List ℕ). o.front ++ 1 ∷ l) (append_assoc record_bytes (0 ∷ []) w.0) ∙ sym (append_assoc o.front (1 ∷ record_bytes) (0 ∷ w.0)) in
    let more : Kept = record k { gate = k.gate + 5 + 9; mark = Some n } in
    let own : IsOwn more after now next = record {
      front = front;
      place = size;
      last = omega (arith, joined_gate j next items joins none, o.last, nine n);
      stands = front_goes j next o.front items o.stands joins none (room_for k n o.front room o.place);
      begun = has_record j next n snap refl;
      keeps = record { key = o.keeps.key; before = o.keeps.before; bounds = o.keeps.bounds; head_len = o.keeps.head_len; leaves = o.keeps.leaves; standing = o.keeps.standing ∙ sym (standing_marked j n); mark = refl };
      base = base_more k.front k.front o.front (1 ∷ record_bytes) j next refl refl o.base;
      read = (0, w.0, bytes);
      left = λ c left. (0 ∷ w.0, only c left ∙ bytes);
      shut = λ run. (0, w.0, bytes, refl);
      left_shut = λ run c left. (0, w.0, only c left ∙ bytes, refl);
    } in
    subst (λ (x : Kept). IsOwn x after now next) (sym is) own

pub marked_told : (told now : Option (List ℕ)) (k new : Kept) (n : ℕ) (items : List ℕ) (images after : List ℕ → Type 0) → items ≡ mark_items n → n < 2 ^ 64 → k.mark ≡ None → (IsFull k items → ⊥) → k.stop ≡ None
    → new ≡ record k { gate = k.gate + 5 + 9; mark = Some n }
    → BothTold told now (λ was now. (front : List ℕ) → length front ≡ k.gate → IsShut front was → IsWritten front (staged items) now × Each after (λ c. c ≡ now))
    → BothTold told now (λ was now. (j : JournalData) → IsOwn k images was j → has_snap n (entries j) ≡ true → IsOwn new after now (with_mark_at j n))
marked_told None None k new n items images after same low unmarked room run is part = tt
marked_told None (Some now) k new n items images after same low unmarked room run is part = part
marked_told (Some was) None k new n items images after same low unmarked room run is part = part
marked_told (Some was) (Some now) k new n items images after same low unmarked room run is part = λ j o snap.
    let w = part o.front o.place (o.shut run) in
    own_marked k new n after was now j low unmarked (subst (λ (l : List ℕ). IsFull k l → ⊥) same room) run is snap (own_at k images was j o) (subst (λ (l : List ℕ). IsWritten o.front (staged l) now) same w.0) w.1
