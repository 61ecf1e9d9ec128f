-- The carried entries, and what a cursor in front of them tells.
use Rattle.std.proofs.Common.{inl, inr, ◌≡◌, ℕ, ◌+◌, ◌*◌, ◌≤◌, ◌==◌, ◌&&◌, nat_eq, nat_le, nat_lt, Bool, true, false, not, refl, sym, ◌∙◌, ap, subst, Option, None, Some, IfSome, Result, Ok, Err, List, [], ◌∷◌, ◌++◌, length, take, drop, arith, append_assoc, append-nil, length-append, lt-ltb, ltb-true}
use Rattle.std.proofs.lemmas.List.{take_at, length-drop, drop-append-le}
use Rattle.avm_num.specs.Bytes.{◌>>=◌, kept as kept_if}
use Rattle.avm_num.specs.Lists.{list_at, read_of}
use Rattle.avm_num.proofs.Numbers.{bind_some, kept_some, and_true}
use Rattle.journal_model.specs.Header.{CarriedData, carried_at, few_carried_at, judged_carried, ascend, header_at}
use Rattle.journal_model.specs.Journal.{JournalData, Is, ended, count_or_zero}
use Rattle.journal_model.specs.Standing.{Bounds}
use Rattle.jrnl_part.specs.Places.{head_place}
use Rattle.jrnl_part.proofs.Places.{header_places}
use Rattle.jrnl_store.specs.Kept.{Kept}
use Rattle.jrnl_store.specs.Own.{IsAt}
use Rattle.jrnl_store.specs.Items.{ItemData, carried_items, carriage_items, carriage_fits, all_low, read_low, part_items, items_in, PartsLeft, IsLeft, carried_left, PartsAnswers, ItemsAnswers}
use Rattle.jrnl_store.specs.declared.cursor.Cursor.{Cursor}
use Rattle.jrnl_store.specs.declared.cursor.Record.{Record}
use Rattle.jrnl_store.specs.declared.fault.StoreFault.{StoreFault}
use Rattle.jrnl_store.specs.declared.fault.StoreFault.TheVariants as fault

-- ---- what carried entries are

low_from : (most seq leaf first leaves : ℕ) (cs : List CarriedData) → leaves ≤ most → ascend seq leaf first leaves cs ≡ true → all_low most cs ≡ true
low_from most seq leaf first leaves [] le up = refl
low_from most seq leaf first leaves (c ∷ cs) le up =
    let t = and_true (nat_le seq c.frame.seq && nat_lt c.frame.seq first && nat_le leaf c.leaf && nat_lt c.leaf leaves) _ up in
    let u = and_true (nat_le seq c.frame.seq && nat_lt c.frame.seq first && nat_le leaf c.leaf) (nat_lt c.leaf leaves) t.0 in
    let low = ltb-true _ _ u.1 in
    rw (lt-ltb c.leaf most (omega (arith, low, le)), low_from most (c.frame.seq + 1) (c.leaf + 1) first leaves cs le t.1) refl

pub carriage_is : (most first leaves : ℕ) (bytes : List ℕ) (cs : List CarriedData) → leaves ≤ most → judged_carried first leaves bytes ≡ Some (cs, []) → (carriage_fits most bytes ≡ true) × (carriage_items bytes ≡ carried_items cs)
unfolding judged_carried few_carried_at
carriage_is most first leaves [] cs le e = absurd cc
carriage_is most first leaves (n ∷ bytes) cs le e =
    let a = bind_some (list_at carried_at n bytes >>= λ carried. kept_if (nat_le n 30) carried) _ (cs, []) e in
    let b = bind_some (list_at carried_at n bytes) _ a.0 a.1 in
    let k = kept_some (nat_le n 30) b.0 a.0 b.2 in
    let q = kept_some (ascend 0 0 first leaves a.0.0) a.0 (cs, []) a.2 in
    let is : list_at carried_at n bytes ≡ Some (cs, []) = b.1 ∙ ap Some (k.1 ∙ q.1) in
    let up : ascend 0 0 first leaves cs ≡ true = ap (λ (p : List CarriedData × List ℕ). ascend 0 0 first leaves p.0) (sym q.1) ∙ q.0 in
    (ap (read_low most) is ∙ low_from most 0 0 first leaves cs le up, ap (λ r. carried_items (read_of r)) is)

-- ---- where they stand

module _ (k : Kept) (was : List ℕ) (j : JournalData) (o : IsAt k was j) (at size : ℕ) (at_is : at ≡ head_place + k.head_len + 4096 * k.bounds.pages) (size_is : at + size ≡ k.front) where
  more : List ℕ
  more = o.base.tail ++ o.read.0 ∷ o.read.1

  whole : was ≡ o.base.header ++ more
  unfolding more
  whole = o.read.2 ∙ ap (λ (l : List ℕ). l ++ o.read.0 ∷ o.read.1) o.base.read ∙ append_assoc o.base.header o.base.tail (o.read.0 ∷ o.read.1)

  pub within : at + size ≤ length was
  within = let l : length was ≡ length (o.base.header ++ more) = ap length whole in omega (arith, l, length-append o.base.header more, o.base.at, size_is)

  here : take size (drop at was) ≡ drop at o.base.header
  here =
      let le : at ≤ length o.base.header = omega (arith, o.base.at, size_is) in
      let len : length (drop at o.base.header) ≡ size = omega (arith, length-drop at o.base.header, o.base.at, size_is) in
      ap (λ (l : List ℕ). take size (drop at l)) whole ∙ ap (take size) (drop-append-le at o.base.header more le) ∙ take_at (drop at o.base.header) more size len

  alone : header_at o.base.header ≡ Some (j.header, [])
  alone = ap header_at (sym (append-nil o.base.header)) ∙ o.base.reads []

  pub chunk_is : (j.header.first == 1) ≡ false → judged_carried k.bounds.first k.leaves (take size (drop at was)) ≡ Some (j.header.carried, [])
  chunk_is later =
      let s = header_places o.base.header (j.header, []) alone in
      let pages : k.bounds.pages ≡ s.fields.count = ap (λ (b : Bounds). b.pages) o.keeps.bounds ∙ ap count_or_zero s.fields.count_is in
      let place : at ≡ head_place + length j.header.head + 4096 * s.fields.count = at_is ∙ ap (λ (n : ℕ). head_place + n + 4096 * k.bounds.pages) o.keeps.head_len ∙ ap (λ (n : ℕ). head_place + length j.header.head + 4096 * n) pages in
      let first : k.bounds.first ≡ j.header.first = ap (λ (b : Bounds). b.first) o.keeps.bounds in
      let same : take size (drop at was) ≡ s.behind = here ∙ ap (λ (n : ℕ). drop n o.base.header) place ∙ sym s.fields.behind in
      rw (first, o.keeps.leaves, same) (elim s.pages [
        | inl n ↦ (let both : true ≡ false = sym n.first ∙ later in absurd cc)
        | inr m ↦ m.judged
      ])

-- ---- the first move of a cursor

pub starts_before : (k : Kept) (was : List ℕ) (j : JournalData) (c : Cursor) → IsAt k was j → c.carried ≡ not (nat_eq k.bounds.first 1) → PartsLeft k was c j (part_items j) → IsLeft k was c j (items_in j)
unfolding items_in
starts_before k was j c o is p =
    let first : k.bounds.first ≡ j.header.first = ap (λ (b : Bounds). b.first) o.keeps.bounds in
    let carried : c.carried ≡ not (j.header.first == 1) = is ∙ ap (λ (n : ℕ). not (n == 1)) first in
    record {
      rest = part_items j;
      behind = p;
      items = none (j.header.first == 1) refl carried;
      carries = λ yes. off (j.header.first == 1) (sym yes ∙ carried);
    }
  where
    off : (t : Bool) → true ≡ not t → t ≡ false
    off false e = refl
    off true e = absurd cc

    none : (t : Bool) → (j.header.first == 1) ≡ t → c.carried ≡ not t → carried_items j.header.carried ++ part_items j ≡ carried_left c.carried j ++ part_items j
    none false e f = rw f refl
    none true e f = rw f (ap (λ (l : List ItemData). l ++ part_items j) (ap carried_items (bare e)))
      where
        bare : (j.header.first == 1) ≡ true → j.header.carried ≡ []
        bare one = let s = header_places o.base.header (j.header, []) (ap header_at (sym (append-nil o.base.header)) ∙ o.base.reads []) in elim s.pages [
          | inl n ↦ n.carried
          | inr m ↦ (let both : true ≡ false = sym one ∙ m.first in absurd cc)
        ]

-- ---- what a move tells

abbrev pub WhereLeft : Kept → Cursor → (List ℕ → JournalData → List ItemData → Type 0) → List ℕ → Type 0
WhereLeft k c P was = (j : JournalData) (left : List ItemData) → IsAt k was j → IsLeft k was c j left → P was j left

module _ (k after : Kept) (c new : Cursor) (buffer : List ℕ) (at size : ℕ) (same : after ≡ k) (before : c.carried ≡ true) (at_is : at ≡ head_place + k.head_len + 4096 * k.bounds.pages) (size_is : at + size ≡ k.front) where
  judged : (was : List ℕ) (j : JournalData) (left : List ItemData) → IsAt k was j → IsLeft k was c j left → (at + size ≤ length was → take size buffer ≡ take size (drop at was)) → judged_carried after.bounds.first after.leaves (take size buffer) ≡ Some (j.header.carried, [])
  judged was j left o l read =
      ap (λ (x : Kept). judged_carried x.bounds.first x.leaves (take size buffer)) same ∙ ap (judged_carried k.bounds.first k.leaves) (read (within k was j o at size at_is size_is)) ∙ chunk_is k was j o at size at_is size_is (l.carries before)

  pub carriage_refused : (told : Option (List ℕ)) → IfSome told (λ was. at + size ≤ length was → take size buffer ≡ take size (drop at was)) → ((cs : List CarriedData) → judged_carried after.bounds.first after.leaves (take size buffer) ≡ Some (cs, []) → ⊥)
      → IfSome told (WhereLeft k c (λ was j left. left ≡ []))
  carriage_refused None read never = tt
  carriage_refused (Some was) read never = λ j left o l. absurd (never j.header.carried (judged was j left o l read))

  pub carriage_given : (told : Option (List ℕ)) → k.leaves ≤ k.bounds.most → new ≡ record c { carried = false } → IfSome told (λ was. at + size ≤ length was → take size buffer ≡ take size (drop at was))
      → IfSome told (WhereLeft k c (λ was j left. (rest : List ItemData) × (left ≡ carriage_items (take size buffer) ++ rest) × IsLeft k was new j rest))
  carriage_given None low is read = tt
  carriage_given (Some was) low is read = λ j left o l.
      let e = judged was j left o l read in
      let m = carriage_is after.bounds.most after.bounds.first after.leaves (take size buffer) j.header.carried (subst (λ (x : Kept). x.leaves ≤ x.bounds.most) (sym same) low) e in
      let p = l.behind in
      let moved : IsLeft k was (record c { carried = false }) j l.rest = record {
        rest = l.rest;
        behind = record { so_far = p.so_far; cursor = p.cursor; stands = p.stands; items = p.items };
        items = refl;
        carries = λ yes. absurd (let no : false ≡ true = yes in cc);
      } in (
        l.rest,
        l.items ∙ ap (λ (t : Bool). carried_left t j ++ l.rest) before ∙ ap (λ (xs : List ItemData). xs ++ l.rest) (sym m.1),
        subst (λ (x : Cursor). IsLeft k was x j l.rest) (sym is) moved,
      )

  pub carriage_held : k.leaves ≤ k.bounds.most → ((cs : List CarriedData) × (judged_carried after.bounds.first after.leaves (take size buffer) ≡ Some (cs, []))) → carriage_fits after.bounds.most (take size buffer) ≡ true
  carriage_held low e = (carriage_is after.bounds.most after.bounds.first after.leaves (take size buffer) e.0 (subst (λ (x : Kept). x.leaves ≤ x.bounds.most) (sym same) low) e.1).0

-- behind the carried entries a cursor moves over the records
pub parts_move : (told : Option (List ℕ)) (k : Kept) (c new : Cursor) (buffer : List ℕ) (r : Result (Option Record) StoreFault) → c.carried ≡ false → new.carried ≡ c.carried
    → IfSome told (λ was. (j : JournalData) (left : List ItemData) → IsAt k was j → ended j ≡ Is j → PartsLeft k was c j left → PartsAnswers buffer k was new j left r)
    → IfSome told (λ was. (j : JournalData) (left : List ItemData) → IsAt k was j → ended j ≡ Is j → IsLeft k was c j left → ItemsAnswers buffer k was new j left r)
parts_move None k c new buffer r before stays h = tt
parts_move (Some was) k c new buffer r before stays h = λ j left o begun l.
    let same : left ≡ l.rest = l.items ∙ ap (λ (t : Bool). carried_left t j ++ l.rest) before in
    go j left l.rest same r (h j l.rest o begun l.behind)
  where
    go : (j : JournalData) (left rest : List ItemData) → left ≡ rest → (r : Result (Option Record) StoreFault) → PartsAnswers buffer k was new j rest r → ItemsAnswers buffer k was new j left r
    go j left rest same (Ok None) a = same ∙ a
    go j left rest same (Ok (Some given)) a =
        let off = stays ∙ before in (
          a.0,
          same ∙ a.1,
          record {
            rest = a.0;
            behind = a.2;
            items = ap (λ (t : Bool). carried_left t j ++ a.0) (sym off);
            carries = λ yes. absurd (let both : true ≡ false = sym yes ∙ off in cc);
          },
        )
    go j left rest same (Err fault.NoMemory) a = a
    go j left rest same (Err fault.DiskFault) a = a
    go j left rest same (Err fault.NotEmpty) a = a
    go j left rest same (Err fault.NoStore) a = a
    go j left rest same (Err (fault.Damaged p)) a = a
    go j left rest same (Err fault.LeavesSpent) a = a
    go j left rest same (Err fault.Full) a = a
    go j left rest same (Err (fault.Ended s)) a = a
