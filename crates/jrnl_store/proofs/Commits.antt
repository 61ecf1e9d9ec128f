-- The steps of a commit on the journal's own disk.
use Rattle.std.proofs.Common.{Result, Ok, Err, MatchBool, cond, eq-eqb, ◌≡◌, inl, inr, ℕ, ◌+◌, ◌<◌, ◌≤◌, ◌^◌, ◌==◌, ◌&&◌, nat_le, nat_lt, true, false, Bool, refl, sym, ◌∙◌, ap, subst, Option, None, Some, option_map, IfSome, List, [], ◌∷◌, ◌++◌, length, fold, arith, length-append, append_assoc, leb-true, eqb-true, ltb-true, MatchOption}
use Rattle.std.specs.Int.{w32}
use Rattle.std.proofs.lemmas.Bool.{leb-false, ltb-false}
use Rattle.avm_num.specs.Bytes.{kept}
use Rattle.avm_num.proofs.Numbers.{kept_some, and_true}
use Rattle.avm_num.specs.Lists.{be, sized_bytes}
use Rattle.avm_num.specs.Walk.{all_at}
use Rattle.avm_outside.specs.Outside.{BothTold}
use Rattle.avm_outside.specs.Moments.{LeavesOnly, IsShut}
use Rattle.avm_outside.proofs.Runs.{weaker, started}
use Rattle.journal_model.specs.Part.{Part, part_at, parts_of, signing}
use Rattle.journal_model.specs.Journal.{JournalData, HasRoom, with_record, with_parts, joined, used, begins_mark, Is, ended, ended_with, continues, journal_of, IsFront}
use Rattle.journal_model.specs.Standing.{StandingData, Bounds, IsLow, behind, standing, bounds, judged, continued}
use Rattle.journal_model.proofs.Gates.{length_sized, from_closed, front_goes}
use Rattle.journal_model.proofs.Parts.{all_none}
use Rattle.journal_model.specs.Header.{most_leaves}
use Rattle.journal_model.specs.Spelling.{parts_bytes}
use Rattle.journal_model.specs.Saving.{NoLeaf, NoRoom, commit_refusal, last_gate}
use Rattle.journal_model.proofs.Judging.{with_parts_stands, stands_used}
use Rattle.jrnl_part.proofs.Sizes.{parts_size}
use Rattle.jrnl_store.proofs.Steps.{base_more}
use Rattle.jrnl_store.proofs.LastGate.{joined_gate}
use Rattle.jrnl_store.specs.Writing.{IsWritten, IsShutOrWritten, Each, staged}
use Rattle.jrnl_part.specs.Views.{standing_view}
use Rattle.jrnl_part.specs.declared.standing.Standing.{Standing}
use Rattle.jrnl_store.specs.Kept.{Kept}
use Rattle.jrnl_store.specs.declared.fault.StoreFault.{StoreFault}
use Rattle.jrnl_store.specs.declared.fault.StoreFault.TheVariants as fault
use Rattle.jrnl_store.specs.Own.{AreKept, IsAt, IsOwn, Answers, CommitCause, IsBatch, StandsForEither, IsSpent, IsFull, IsBehind}

-- the journal's own disk as it is read
abbrev pub own_at : (k : Kept) (images : List ℕ → Type 0) (was : List ℕ) (j : JournalData) → IsOwn k images was j → IsAt k was j
own_at k images was j o = record { front = o.front; place = o.place; last = o.last; stands = o.stands; keeps = o.keeps; base = o.base; read = o.read; begun = inr o.begun }

-- ---- where the journal stands behind a batch

judged_is : (k : Kept) (items : List ℕ) → IsBatch k items → continued k.bounds k.standing items ≡ judged k.bounds k.standing None (parts_of items)
unfolding continued
judged_is k items b = rw b.whole refl

module _ (k : Kept) (items : List ℕ) (b : IsBatch k items) (low : k.standing.used ≤ k.bounds.most) where
  n : ℕ
  n = signing (parts_of items)

  test_is : (o : Option StandingData) → continued k.bounds k.standing items ≡ o → kept (nat_le (k.standing.used + signing (parts_of items)) k.bounds.most) (fold behind k.standing (parts_of items)) ≡ o
  test_is o e = rw b.follows at (sym (judged_is k items b) ∙ e)

  pub spent : continued k.bounds k.standing items ≡ None → IsSpent k items
  spent e = go (nat_le (k.standing.used + signing (parts_of items)) k.bounds.most) refl (test_is None e)
    where
      go : (t : Bool) → nat_le (k.standing.used + signing (parts_of items)) k.bounds.most ≡ t → kept t (fold behind k.standing (parts_of items)) ≡ None → IsSpent k items
      go true is h = absurd cc
      go false is h = let f = leb-false _ _ is in (omega (arith, f, b.one, low), omega (arith, f, b.one, low))

  pub not_spent : (s : StandingData) → continued k.bounds k.standing items ≡ Some s → IsSpent k items → ⊥
  not_spent s e both = go (nat_le (k.standing.used + signing (parts_of items)) k.bounds.most) refl (test_is (Some s) e)
    where
      go : (t : Bool) → nat_le (k.standing.used + signing (parts_of items)) k.bounds.most ≡ t → kept t (fold behind k.standing (parts_of items)) ≡ Some s → ⊥
      go true is h = let f = leb-true _ _ is in omega (arith, f, both.0, both.1)
      go false is h = cc

-- ---- what is joined

pub no_mark : (items : List ℕ) (ps : List Part) → all_at part_at items ≡ Some ps → begins_mark items ≡ false
unfolding part_at
no_mark [] ps e = refl
no_mark (b ∷ rest) ps e = go (b == 4) refl
  where
    go : (t : Bool) → (b == 4) ≡ t → (b == 4) ≡ false
    go false is = is
    go true is =
        let four : b ≡ 4 = eqb-true b 4 is in
        let none : part_at (b ∷ rest) ≡ None = rw four refl in
        let nothing : all_at part_at (b ∷ rest) ≡ None = all_none (b ∷ rest) none in
        absurd cc

-- the batch joins the journal
pub joins : (k : Kept) (items : List ℕ) (j : JournalData) (s : StandingData) → IsBatch k items → AreKept k j → continued k.bounds k.standing items ≡ Some s → (joined j items ≡ Some (with_record j (parts_of items))) × (s ≡ standing (with_record j (parts_of items)))
unfolding joined with_parts
joins k items j s b keeps e =
    let P = parts_of items in
    let fits : continued (bounds j) (standing j) items ≡ Some s = rw (← keeps.bounds, ← keeps.standing) e in
    let m = map_some standing (with_parts j items) s (with_parts_stands j items ∙ fits) in
    let whole : with_parts j items ≡ kept (continues j P) (with_record j P) = rw b.whole refl in
    let t = kept_some (continues j P) (with_record j P) m.0 (sym whole ∙ m.1) in
    let is : with_parts j items ≡ Some (with_record j P) = m.1 ∙ ap Some (sym t.1) in
    (rw (no_mark items P b.whole) is, sym m.2 ∙ ap standing (sym t.1))
  where
    map_some : {A B : Type 0} (f : A → B) (o : Option A) (y : B) → option_map f o ≡ Some y → (x : A) × (o ≡ Some x) × (f x ≡ y)
    map_some f None y e = absurd cc
    map_some f (Some x) y e = (x, refl, cc)

begun_more : (j : JournalData) (ps : List Part) → ended (with_record j ps) ≡ Is (with_record j ps)
begun_more j ps = go j.records
  where
    go : (rs : List (List Part)) → ended_with (rs ++ ps ∷ []) (with_record j ps) ≡ Is (with_record j ps)
    go [] = refl
    go (r ∷ rs) = refl

-- ---- images

-- an image with the gate closed stands for the journal
pub shut_stands : (j : JournalData) (front c : List ℕ) → IsFront j front → ended j ≡ Is j → IsShut front c → journal_of c ≡ Is j
shut_stands j front c is begun shut =
    ap journal_of shut.2 ∙ is shut.0 shut.1 ∙ from_closed (record { journal = j; place = length front; bytes = shut.0 ∷ shut.1 }) shut.3 ∙ begun

-- and one with the record for the next
pub written_stands : (j next : JournalData) (front items c : List ℕ) → IsFront j front → joined j items ≡ Some next → j.mark ≡ None → HasRoom (length front) items → ended next ≡ Is next → IsWritten front (staged items) c → journal_of c ≡ Is next
written_stands j next front items c is e unmarked room begun w =
    let more = front_goes j next front items is e unmarked room in
    let bytes : c ≡ (front ++ 1 ∷ sized_bytes (be w32) items) ++ 0 ∷ w.0 = w.1 ∙ ap (λ (l : List ℕ). front ++ 1 ∷ l) (append_assoc (sized_bytes (be w32) items) (0 ∷ []) w.0) ∙ sym (append_assoc front (1 ∷ sized_bytes (be w32) items) (0 ∷ w.0)) in
    shut_stands next (front ++ 1 ∷ sized_bytes (be w32) items) c more begun (0, w.0, bytes, refl)

-- ---- what each exit leaves

room_for : (k : Kept) (items front : List ℕ) → IsBatch k items → (IsFull k items → ⊥) → length front ≡ k.gate → HasRoom (length front) items
room_for k items front b room place = record { some = b.some; few = b.few; below = go (nat_lt (length front + 5 + length items) (2 ^ 30)) refl }
  where
    go : (t : Bool) → nat_lt (length front + 5 + length items) (2 ^ 30) ≡ t → length front + 5 + length items < 2 ^ 30
    go true e = ltb-true _ _ e
    go false e = absurd (room (let f = ltb-false _ _ e in omega (arith, f, place)))

-- an image of a moment of a commit
either : (k : Kept) (items : List ℕ) (images : List ℕ → Type 0) (was : List ℕ) (j : JournalData) (s : StandingData) → IsBatch k items → k.mark ≡ None → (IsFull k items → ⊥) → continued k.bounds k.standing items ≡ Some s
    → (o : IsOwn k images was j) → (c : List ℕ) → IsShutOrWritten o.front (staged items) c → StandsForEither j items c
either k items images was j s b unmarked room e o c (inl shut) = inl (shut_stands j o.front c o.stands o.begun shut)
either k items images was j s b unmarked room e o c (inr w) =
    inr (written_stands j (with_record j (parts_of items)) o.front items c o.stands (joins k items j s b o.keeps e).0 (sym o.keeps.mark ∙ unmarked) (room_for k items o.front b room o.place) (begun_more j (parts_of items)) w)

module _ {D : Type 0} (moment : D → ℕ) (left_since : D → ℕ → List ℕ → Type 0) where
  pub moments_told : (told : Option (List ℕ)) (k : Kept) (items : List ℕ) (images : List ℕ → Type 0) (old new : D) (s : StandingData) → IsBatch k items → k.mark ≡ None → (IsFull k items → ⊥) → continued k.bounds k.standing items ≡ Some s
      → IfSome told (λ was. (front : List ℕ) → length front ≡ k.gate → IsShut front was → Each images (IsShut front) → LeavesOnly moment left_since old new (IsShutOrWritten front (staged items)))
      → IfSome told (λ was. (j : JournalData) → IsOwn k images was j → k.stop ≡ None → LeavesOnly moment left_since old new (StandsForEither j items))
  moments_told None k items images old new s b unmarked room e part = tt
  moments_told (Some was) k items images old new s b unmarked room e part = λ j o run.
      weaker moment left_since old new _ _ (either k items images was j s b unmarked room e o) (part o.front o.place (o.shut run) (o.left_shut run))

  -- where nothing was written
  pub still_told : (told : Option (List ℕ)) (k : Kept) (items : List ℕ) (may_leave : D → List ℕ → Type 0) (old : D) → ((d : D) (c : List ℕ) → left_since d (moment d) c → may_leave d c)
      → IfSome told (λ was. (j : JournalData) → IsOwn k (may_leave old) was j → k.stop ≡ None → LeavesOnly moment left_since old old (StandsForEither j items))
  still_told None k items may_leave old only_now = tt
  still_told (Some was) k items may_leave old only_now = λ j o run.
      started moment left_since old (StandsForEither j items) (λ c left. inl (shut_stands j o.front c o.stands o.begun (o.left_shut run c (only_now old c left))))

-- after the last sync
pub own_more : (k new : Kept) (items : List ℕ) (after : List ℕ → Type 0) (was now : List ℕ) (j : JournalData) (s : StandingData) → IsBatch k items → k.mark ≡ None → (IsFull k items → ⊥) → k.stop ≡ None → continued k.bounds k.standing items ≡ Some s
    → new ≡ record k { gate = k.gate + 5 + length items; standing = s } → (o : IsAt k was j) → IsWritten o.front (staged items) now → Each after (λ c. c ≡ now) → IsOwn new after now (with_record j (parts_of items))
own_more k new items after was now j s b unmarked room run e is o w only =
    let record_bytes = sized_bytes (be w32) items in
    let front = o.front ++ 1 ∷ record_bytes in
    let joins = joins k items j s b o.keeps e in
    let size : length front ≡ k.gate + 5 + length items = omega (arith, length-append o.front (1 ∷ record_bytes), length_sized items, o.place) in
    let bytes : now ≡ front ++ 0 ∷ w.0 = w.1 ∙ ap (λ (l : List ℕ). o.front ++ 1 ∷ l) (append_assoc record_bytes (0 ∷ []) w.0) ∙ sym (append_assoc o.front (1 ∷ record_bytes) (0 ∷ w.0)) in
    let more : Kept = record k { gate = k.gate + 5 + length items; standing = s } in
    let own : IsOwn more after now (with_record j (parts_of items)) = record {
      front = front;
      place = size;
      last = omega (arith, joined_gate j (with_record j (parts_of items)) items joins.0 (sym o.keeps.mark ∙ unmarked), o.last);
      stands = front_goes j (with_record j (parts_of items)) o.front items o.stands joins.0 (sym o.keeps.mark ∙ unmarked) (room_for k items o.front b room o.place);
      begun = begun_more j (parts_of items);
      keeps = record { key = o.keeps.key; before = o.keeps.before; bounds = o.keeps.bounds; head_len = o.keeps.head_len; leaves = o.keeps.leaves; standing = joins.1; mark = o.keeps.mark };
      base = base_more k.front k.front o.front (1 ∷ record_bytes) j (with_record j (parts_of items)) refl refl o.base;
      read = (0, w.0, bytes);
      left = λ c left. (0 ∷ w.0, only c left ∙ bytes);
      shut = λ run. (0, w.0, bytes, refl);
      left_shut = λ run c left. (0, w.0, only c left ∙ bytes, refl);
    } in
    subst (λ (x : Kept). IsOwn x after now (with_record j (parts_of items))) (sym is) own

pub own_told : (told now : Option (List ℕ)) (k new : Kept) (items : List ℕ) (images after : List ℕ → Type 0) (s : StandingData) → IsBatch k items → k.mark ≡ None → (IsFull k items → ⊥) → k.stop ≡ None → continued k.bounds k.standing items ≡ Some s
    → new ≡ record k { gate = k.gate + 5 + length items; standing = s }
    → BothTold told now (λ was now. (front : List ℕ) → length front ≡ k.gate → IsShut front was → IsWritten front (staged items) now × Each after (λ c. c ≡ now))
    → BothTold told now (λ was now. (j : JournalData) → IsOwn k images was j → IsOwn new after now (with_record j (parts_of items)))
own_told None None k new items images after s b unmarked room run e is part = tt
own_told None (Some now) k new items images after s b unmarked room run e is part = part
own_told (Some was) None k new items images after s b unmarked room run e is part = part
own_told (Some was) (Some now) k new items images after s b unmarked room run e is part = λ j o.
    let w = part o.front o.place (o.shut run) in
    own_more k new items after was now j s b unmarked room run e is (own_at k images was j o) w.0 w.1

-- where the journal stands behind a batch
pub is_behind : (k : Kept) (items : List ℕ) (r : Option Standing) → IsBatch k items → k.standing.used ≤ k.bounds.most → option_map standing_view r ≡ continued k.bounds k.standing items → IfSome r (λ s. IsLow k.bounds (standing_view s)) → MatchOption r (IsSpent k items) (λ s. IsBehind k items (standing_view s))
is_behind k items None b low e fits = spent k items b low (sym e)
is_behind k items (Some s) b low e fits = record { leaves = not_spent k items b low (standing_view s) (sym e); value = sym e; low = fits }

-- ---- the answers

-- the test of a batch's leaves
spent_test : (n used most : ℕ) → n ≤ 1 → (t : Bool) → (nat_lt 0 n && used == most) ≡ t → MatchBool t ((n ≡ 1) × (used ≡ most)) ((n ≡ 1) × (used ≡ most) → ⊥)
spent_test n used most one true e = let t = and_true (nat_lt 0 n) (used == most) e in let some = ltb-true _ _ t.0 in (omega (arith, some, one), eqb-true used most t.1)
spent_test n used most one false e = λ both. let yes : (nat_lt 0 n && used == most) ≡ true = rw (both.0, both.1, eq-eqb most most refl) refl in let no : true ≡ false = sym yes ∙ e in cc

module _ (k : Kept) (items : List ℕ) (b : IsBatch k items) (j : JournalData) (keeps : AreKept k j) (last : k.gate ≡ last_gate j) where
  abbrev leafless : Bool
  leafless = nat_lt 0 (signing (parts_of items)) && used j == most_leaves j.header.key

  abbrev full : Bool
  full = nat_le (2 ^ 30) (last_gate j + 5 + length (parts_bytes (parts_of items)))

  is_spent : (t : Bool) → leafless ≡ t → MatchBool t (IsSpent k items) (IsSpent k items → ⊥)
  is_spent t e =
      let leaves : k.standing.used ≡ used j = ap (λ (s : StandingData). s.used) keeps.standing ∙ stands_used j in
      let most : k.bounds.most ≡ most_leaves j.header.key = ap (λ (x : Bounds). x.most) keeps.bounds in
      spent_test (signing (parts_of items)) k.standing.used k.bounds.most b.one t (ap (λ (u : ℕ). nat_lt 0 (signing (parts_of items)) && u == k.bounds.most) leaves ∙ ap (λ (m : ℕ). nat_lt 0 (signing (parts_of items)) && used j == m) most ∙ e)

  is_full : (t : Bool) → full ≡ t → MatchBool t (IsFull k items) (IsFull k items → ⊥)
  is_full true e = let le = leb-true _ _ e in omega (arith, le, last, parts_size items (parts_of items) b.whole)
  is_full false e = λ room. let gt = leb-false _ _ e in omega (arith, gt, room, last, parts_size items (parts_of items) b.whole)

  answer : {T : Type 0} (r : Result T StoreFault) → CommitCause k items r → k.stop ≡ None → Answers (commit_refusal j (parts_of items)) r
  answer {T} r cause run = go leafless refl full refl r cause
    where
      go : (t : Bool) → leafless ≡ t → (u : Bool) → full ≡ u → (r : Result T StoreFault) → CommitCause k items r → Answers (cond t (Some NoLeaf) (cond u (Some NoRoom) None)) r
      go true x u y (Ok v) c = absurd (c.1 (is_spent true x))
      go true x u y (Err fault.NoMemory) c = absurd c
      go true x u y (Err fault.DiskFault) c = absurd (c.1 (is_spent true x))
      go true x u y (Err fault.NotEmpty) c = absurd c
      go true x u y (Err fault.NoStore) c = absurd c
      go true x u y (Err (fault.Damaged p)) c = absurd c
      go true x u y (Err fault.LeavesSpent) c = refl
      go true x u y (Err fault.Full) c = absurd (c.1 (is_spent true x))
      go true x u y (Err (fault.Ended s)) c = absurd (let no : None ≡ Some s = sym run ∙ c in cc)
      go false x true y (Ok v) c = absurd (c.2 (is_full true y))
      go false x true y (Err fault.NoMemory) c = absurd c
      go false x true y (Err fault.DiskFault) c = absurd (c.2 (is_full true y))
      go false x true y (Err fault.NotEmpty) c = absurd c
      go false x true y (Err fault.NoStore) c = absurd c
      go false x true y (Err (fault.Damaged p)) c = absurd c
      go false x true y (Err fault.LeavesSpent) c = absurd (is_spent false x c.1)
      go false x true y (Err fault.Full) c = refl
      go false x true y (Err (fault.Ended s)) c = absurd (let no : None ≡ Some s = sym run ∙ c in cc)
      go false x false y (Ok v) c = tt
      go false x false y (Err fault.NoMemory) c = c
      go false x false y (Err fault.DiskFault) c = tt
      go false x false y (Err fault.NotEmpty) c = c
      go false x false y (Err fault.NoStore) c = c
      go false x false y (Err (fault.Damaged p)) c = c
      go false x false y (Err fault.LeavesSpent) c = is_spent false x c.1
      go false x false y (Err fault.Full) c = is_full false y c.2
      go false x false y (Err (fault.Ended s)) c = let no : None ≡ Some s = sym run ∙ c in cc

pub answers_told : {T : Type 0} (told : Option (List ℕ)) (k : Kept) (items : List ℕ) (images : List ℕ → Type 0) (r : Result T StoreFault) → IsBatch k items → CommitCause k items r
    → IfSome told (λ was. (j : JournalData) → IsOwn k images was j → k.stop ≡ None → Answers (commit_refusal j (parts_of items)) r)
answers_told None k items images r b cause = tt
answers_told (Some was) k items images r b cause = λ j o run. answer k items b j o.keeps o.last r cause run
