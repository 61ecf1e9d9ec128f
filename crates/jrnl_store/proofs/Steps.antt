-- One record more, as it is read from the journal's disk.
use Rattle.std.proofs.Common.{◌≡◌, ⊎_elim, inl, inr, ℕ, zero, suc, ◌+◌, ◌-◌, true, false, Bool, refl, sym, ◌∙◌, ap, subst, Option, None, Some, option_map, IfSome, Result, Ok, Err, IfOk, MatchBool, List, [], ◌∷◌, ◌++◌, length, take, drop, if◌then◌else◌, arith, length-append, append_assoc}
use Rattle.std.specs.List.{flat_map}
use Rattle.std.specs.Int.{w32}
use Rattle.std.proofs.lemmas.List.{drop_at, drop-take}
use Rattle.avm_num.specs.Lists.{be, sized_bytes}
use Rattle.avm_num.specs.Walk.{all_at}
use Rattle.avm_num.proofs.Numbers.{bind_some, kept_some}
use Rattle.journal_model.specs.Part.{Part, part_at, frames_in}
use Rattle.journal_model.specs.Journal.{JournalData, parts, Gate, HasRoom, with_record, with_parts, with_mark, mark_at, has_snap, entries, continues, joined, begins_mark, is_open, items_at, next_gate, Is, Damaged, ended, ended_with, journal_of, journal_from, IsFront}
use Rattle.journal_model.specs.Standing.{standing, bounds, continued}
use Rattle.journal_model.proofs.Gates.{from_closed, from_damaged, next_refused, next_marked, next_lacking, front_goes, length_sized}
use Rattle.journal_model.proofs.Judging.{with_parts_stands}
use Rattle.journal_model.proofs.Prefixes.{joined_extends}
use Rattle.journal_model.specs.Header.{HeaderData}
use Rattle.avm_outside.specs.declared.files.Failed.{Failed}
use Rattle.jrnl_store.proofs.LastGate.{joined_gate}
use Rattle.jrnl_store.specs.Kept.{Kept}
use Rattle.jrnl_store.specs.Own.{AreKept, IsAt, HasBase, MarkAnswers, JoinAnswers, StepAnswers}
use Rattle.jrnl_store.specs.Reading.{IsFound}
use Rattle.jrnl_store.specs.declared.reading.Found.{Found}
use Rattle.jrnl_store.specs.declared.reading.Found.TheVariants as found
use Rattle.jrnl_store.specs.declared.fault.StoreFault.TheVariants as fault

-- ---- the mark

pub mark_none : (told : Option (List ℕ)) (k new : Kept) (bytes : List ℕ) → mark_at bytes ≡ None → IfSome told (λ was. (j : JournalData) → IsAt k was j → MarkAnswers false new j bytes)
unfolding with_mark
mark_none None k new bytes e = tt
mark_none (Some was) k new bytes e = λ j o. rw e refl

pub mark_true : (told : Option (List ℕ)) (k new : Kept) (bytes : List ℕ) (n : ℕ) (b : Bool) → b ≡ true → mark_at bytes ≡ Some n → new.mark ≡ Some n → IfSome told (λ was. (j : JournalData) → IsAt k was j → b ≡ has_snap n (entries j))
    → IfSome told (λ was. (j : JournalData) → IsAt k was j → MarkAnswers true new j bytes)
unfolding with_mark
mark_true None k new bytes n b is e marked found = tt
mark_true (Some was) k new bytes n b is e marked found = λ j o. let snap : has_snap n (entries j) ≡ true = sym (found j o) ∙ is in (n, rw (e, snap) refl, marked)

pub mark_false : (told : Option (List ℕ)) (k new : Kept) (bytes : List ℕ) (n : ℕ) (b : Bool) → b ≡ false → mark_at bytes ≡ Some n → IfSome told (λ was. (j : JournalData) → IsAt k was j → b ≡ has_snap n (entries j))
    → IfSome told (λ was. (j : JournalData) → IsAt k was j → MarkAnswers false new j bytes)
unfolding with_mark
mark_false None k new bytes n b is e found = tt
mark_false (Some was) k new bytes n b is e found = λ j o. let snap : has_snap n (entries j) ≡ false = sym (found j o) ∙ is in rw (e, snap) refl

-- ---- items that join

begun_parts : (j : JournalData) (ps : List Part) → ended (with_record j ps) ≡ Is (with_record j ps)
begun_parts j ps = go j.records
  where
    go : (rs : List (List Part)) → ended_with (rs ++ ps ∷ []) (with_record j ps) ≡ Is (with_record j ps)
    go [] = refl
    go (r ∷ rs) = refl

-- a journal with a SNAP entry has a record
pub has_record : (j x : JournalData) (n : ℕ) → has_snap n (entries j) ≡ true → x.records ≡ j.records → ended x ≡ Is x
unfolding entries parts
has_record j x n e same = go j.records refl
  where
    go : (rs : List (List Part)) → j.records ≡ rs → ended_with x.records x ≡ Is x
    go [] is = let none : has_snap n (frames_in (flat_map (λ (r : List Part). r) j.records)) ≡ false = rw is refl in absurd cc
    go (r ∷ rs) is = rw (same, is) refl

pub parts_true : (told : Option (List ℕ)) (k new : Kept) (items : List ℕ) (gate : ℕ) → begins_mark items ≡ false → k.mark ≡ None → continued k.bounds k.standing items ≡ Some new.standing → new ≡ record k { gate = gate; standing = new.standing }
    → IfSome told (λ was. (j : JournalData) → IsAt k was j → JoinAnswers true new j items)
unfolding joined with_parts
parts_true None k new items gate first unmarked e is = tt
parts_true (Some was) k new items gate first unmarked e is = λ j o.
    let fits : continued (bounds j) (standing j) items ≡ Some new.standing = rw (← o.keeps.bounds, ← o.keeps.standing) e in
    let m = map_some standing (with_parts j items) new.standing (with_parts_stands j items ∙ fits) in
    let a = bind_some (all_at part_at items) _ m.0 m.1 in
    let t = kept_some (continues j a.0) (with_record j a.0) m.0 a.2 in
    let keeps : AreKept (record k { gate = gate; standing = new.standing }) (with_record j a.0) = record { key = o.keeps.key; before = o.keeps.before; bounds = o.keeps.bounds; head_len = o.keeps.head_len; leaves = o.keeps.leaves; standing = sym m.2 ∙ ap standing (sym t.1); mark = o.keeps.mark } in
    (with_record j a.0, rw (first) (m.1 ∙ ap Some (sym t.1)), sym o.keeps.mark ∙ unmarked, subst (λ (x : Kept). AreKept x (with_record j a.0)) (sym is) keeps, begun_parts j a.0)
  where
    map_some : {A B : Type 0} (f : A → B) (o : Option A) (y : B) → option_map f o ≡ Some y → (x : A) × (o ≡ Some x) × (f x ≡ y)
    map_some f None y e = absurd cc
    map_some f (Some x) y e = (x, refl, cc)

pub parts_false : (told : Option (List ℕ)) (k new : Kept) (items : List ℕ) → begins_mark items ≡ false → continued k.bounds k.standing items ≡ None → IfSome told (λ was. (j : JournalData) → IsAt k was j → JoinAnswers false new j items)
unfolding joined
parts_false None k new items first e = tt
parts_false (Some was) k new items first e = λ j o.
    let none : continued (bounds j) (standing j) items ≡ None = rw (← o.keeps.bounds, ← o.keeps.standing) e in
    inl (rw (first) (map_none standing (with_parts j items) (with_parts_stands j items ∙ none)))
  where
    map_none : {A B : Type 0} (f : A → B) (o : Option A) → option_map f o ≡ None → o ≡ None
    map_none f None e = refl
    map_none f (Some x) e = absurd cc

pub standing_marked : (j : JournalData) (n : ℕ) → standing (record j { mark = Some n }) ≡ standing j
unfolding standing parts
standing_marked j n = refl

pub mark_joins : (told : Option (List ℕ)) (k new : Kept) (items : List ℕ) (gate : ℕ) (b : Bool) → begins_mark items ≡ true → k.mark ≡ None → new ≡ (if b then record k { gate = gate; mark = new.mark } else k)
    → IfSome told (λ was. (j : JournalData) → IsAt k was j → MarkAnswers b new j (drop 1 items)) → IfSome told (λ was. (j : JournalData) → IsAt k was j → JoinAnswers b new j items)
unfolding joined with_mark
mark_joins None k new items gate b first unmarked is found = tt
mark_joins (Some was) k new items gate true first unmarked is found = λ j o.
    let m = found j o in
    let next : JournalData = record j { mark = Some m.0 } in
    let a = bind_some (mark_at (drop 1 items)) _ next m.1 in
    let t = kept_some (has_snap a.0 (entries j)) (record j { mark = Some a.0 }) next a.2 in
    let keeps : AreKept (record k { gate = gate; mark = new.mark }) next = record { key = o.keeps.key; before = o.keeps.before; bounds = o.keeps.bounds; head_len = o.keeps.head_len; leaves = o.keeps.leaves; standing = o.keeps.standing ∙ sym (standing_marked j m.0); mark = m.2 } in
    (next, rw (first) m.1, sym o.keeps.mark ∙ unmarked, subst (λ (x : Kept). AreKept x next) (sym is) keeps, has_record j next a.0 t.0 refl)
mark_joins (Some was) k new items gate false first unmarked is found = λ j o. inl (rw (first) (found j o))

pub marked_refused : (told : Option (List ℕ)) (k new : Kept) (items : List ℕ) (n : ℕ) → k.mark ≡ Some n → IfSome told (λ was. (j : JournalData) → IsAt k was j → JoinAnswers false new j items)
marked_refused None k new items n e = tt
marked_refused (Some was) k new items n e = λ j o. inr (n, sym o.keeps.mark ∙ e)

pub drop_taken : (size : ℕ) (l : List ℕ) → drop 1 (take size l) ≡ take (size - 1) (drop 1 l)
drop_taken zero l = refl
drop_taken (suc m) l =
    let more : suc m ≡ 1 + m = omega arith in
    let less : m ≡ suc m - 1 = omega arith in
    ap (λ (k : ℕ). drop 1 (take k l)) more ∙ drop-take 1 m l ∙ ap (λ (k : ℕ). take k (drop 1 l)) less

pub mark_joins_ok : (r : Result Bool Failed) (told : Option (List ℕ)) (k new : Kept) (items : List ℕ) (gate : ℕ) → begins_mark items ≡ true → k.mark ≡ None → IfOk r (λ b. new ≡ (if b then record k { gate = gate; mark = new.mark } else k))
    → IfOk r (λ b. IfSome told (λ was. (j : JournalData) → IsAt k was j → MarkAnswers b new j (drop 1 items))) → IfOk r (λ b. IfSome told (λ was. (j : JournalData) → IsAt k was j → JoinAnswers b new j items))
mark_joins_ok (Ok b) told k new items gate first unmarked is found = mark_joins told k new items gate b first unmarked is found
mark_joins_ok (Err e) told k new items gate first unmarked is found = tt

pub parts_join : (told : Option (List ℕ)) (k new : Kept) (items : List ℕ) (gate : ℕ) (b : Bool) → begins_mark items ≡ false → k.mark ≡ None
    → MatchBool b (continued k.bounds k.standing items ≡ Some new.standing) (continued k.bounds k.standing items ≡ None) → new ≡ (if b then record k { gate = gate; standing = new.standing } else k)
    → IfSome told (λ was. (j : JournalData) → IsAt k was j → JoinAnswers b new j items)
parts_join told k new items gate true first unmarked e is = parts_true told k new items gate first unmarked e is
parts_join told k new items gate false first unmarked e is = parts_false told k new items first e

-- ---- one step

-- the header stands before a longer front too
pub base_more : (place now : ℕ) (front more : List ℕ) (j next : JournalData) → now ≡ place → next.header ≡ j.header → HasBase place front j → HasBase now (front ++ more) next
base_more place now front more j next is same b = record {
  header = b.header;
  tail = b.tail ++ more;
  at = b.at ∙ sym is;
  reads = λ rest. b.reads rest ∙ ap (λ (h : HeaderData). Some (h, rest)) (sym same);
  starts = subst (λ (h : HeaderData). IsFront (record { header = h; records = []; mark = None }) b.header) (sym same) b.starts;
  read = ap (λ (l : List ℕ). l ++ more) b.read ∙ append_assoc b.header b.tail more;
}

module _ (k : Kept) (was : List ℕ) (j : JournalData) (o : IsAt k was j) where
  here : drop k.gate was ≡ o.read.0 ∷ o.read.1
  here = ap (drop k.gate) o.read.2 ∙ drop_at o.front (o.read.0 ∷ o.read.1) k.gate o.place

  gate_here : Gate
  gate_here = record { journal = j; place = length o.front; bytes = o.read.0 ∷ o.read.1 }

  goes_from : journal_of was ≡ journal_from (record { journal = j; place = length o.front; bytes = o.read.0 ∷ o.read.1 })
  goes_from = ap journal_of o.read.2 ∙ o.stands o.read.0 o.read.1

  pub closed : is_open (drop k.gate was) ≡ false → journal_of was ≡ ended j
  closed e = goes_from ∙ from_closed (record { journal = j; place = length o.front; bytes = o.read.0 ∷ o.read.1 }) (ap is_open (sym here) ∙ e)

  damaged : (bytes : List ℕ) → drop k.gate was ≡ 1 ∷ bytes → next_gate (record { journal = j; place = length o.front; bytes = 1 ∷ bytes }) ≡ None → journal_of was ≡ Damaged k.gate
  damaged bytes e none =
      let g : Gate = record { journal = j; place = length o.front; bytes = 1 ∷ bytes } in
      goes_from ∙ ap (λ (l : List ℕ). journal_from (record { journal = j; place = length o.front; bytes = l })) (sym here ∙ e) ∙ from_damaged g refl none ∙ ap Damaged o.place

  goes_on : (new : Kept) (next : JournalData) (items : List ℕ) (b : ℕ) (rest : List ℕ) → drop k.gate was ≡ 1 ∷ (sized_bytes (be w32) items ++ b ∷ rest) → HasRoom k.gate items → joined j items ≡ Some next → j.mark ≡ None → AreKept new next → new.gate ≡ k.gate + 5 + length items → new.front ≡ k.front → ended next ≡ Is next → IsAt new was next
  goes_on new next items b rest e room join unmarked keeps gate first begun =
      let record_bytes = sized_bytes (be w32) items in
      let front = o.front ++ 1 ∷ record_bytes in
      record {
        front = front;
        place = omega (arith, length-append o.front (1 ∷ record_bytes), length_sized items, o.place, gate);
        last = omega (arith, joined_gate j next items join unmarked, o.last, gate);
        stands = front_goes j next o.front items o.stands join unmarked (subst (λ (n : ℕ). HasRoom n items) (sym o.place) room);
        keeps = keeps;
        base = base_more k.front new.front o.front (1 ∷ record_bytes) j next first (joined_extends j next items join).header o.base;
        read = (b, rest, o.read.2 ∙ ap (λ (l : List ℕ). o.front ++ l) (sym here ∙ e) ∙ sym (append_assoc o.front (1 ∷ record_bytes) (b ∷ rest)));
        begun = inr begun;
      }

same_place : (k new : Kept) (was : List ℕ) (j : JournalData) → new ≡ k → IsAt k was j → IsAt new was j
same_place k new was j is o = subst (λ (x : Kept). IsAt x was j) (sym is) o

pub closed_told : (told : Option (List ℕ)) (k new : Kept) (buffer : List ℕ) (f : Found) → f ≡ found.Closed → new ≡ k → IfSome told (λ was. IsFound f k.gate buffer (drop k.gate was)) → IfSome told (λ was. (j : JournalData) → IsAt k was j → StepAnswers k new was j (Ok false))
closed_told None k new buffer f is same h = tt
closed_told (Some was) k new buffer f is same h = λ j o.
    let e : is_open (drop k.gate was) ≡ false = subst (λ (x : Found). IsFound x k.gate buffer (drop k.gate was)) is h in
    (closed k was j o e, same_place k new was j same o, ap (λ (x : Kept). is_open (drop x.gate was)) same ∙ e)

pub lacking_found : (told : Option (List ℕ)) (k new : Kept) (buffer : List ℕ) (f : Found) → f ≡ found.Lacking → IfSome told (λ was. IsFound f k.gate buffer (drop k.gate was)) → IfSome told (λ was. (j : JournalData) → IsAt k was j → StepAnswers k new was j (Err (fault.Damaged k.gate)))
lacking_found None k new buffer f is h = tt
lacking_found (Some was) k new buffer f is h = λ j o.
    let e : IsFound found.Lacking k.gate buffer (drop k.gate was) = subst (λ (x : Found). IsFound x k.gate buffer (drop k.gate was)) is h in
    damaged k was j o e.0 e.1 (next_lacking j (length o.front) 1 e.0 (subst (λ (n : ℕ). items_at n e.0 ≡ None) (sym o.place) e.2))

refused_some : (k new : Kept) (was buffer : List ℕ) (size : ℕ) → IsFound (found.Items size) k.gate buffer (drop k.gate was) → ((j : JournalData) → IsAt k was j → JoinAnswers false new j (take size buffer)) → (j : JournalData) → IsAt k was j → journal_of was ≡ Damaged k.gate
refused_some k new was buffer size e answer j o =
    let room : HasRoom (length o.front) (take size buffer) = subst (λ (n : ℕ). HasRoom n (take size buffer)) (sym o.place) e.3 in
    damaged k was j o _ e.2 (⊎_elim (λ none. next_refused j (length o.front) 1 (take size buffer) e.0 e.1 none room) (λ m. next_marked j (length o.front) 1 _ m.0 m.1) (answer j o))

joined_some : (k new : Kept) (was buffer : List ℕ) (size : ℕ) → IsFound (found.Items size) k.gate buffer (drop k.gate was) → ((j : JournalData) → IsAt k was j → JoinAnswers true new j (take size buffer)) → new.gate ≡ k.gate + 5 + size → new.front ≡ k.front
    → (j : JournalData) → IsAt k was j → (next : JournalData) × IsAt new was next × (ended next ≡ Is next)
joined_some k new was buffer size e answer gate first j o =
    let a = answer j o in
    (a.0, goes_on k was j o new a.0 (take size buffer) e.0 e.1 e.2 e.3 a.1 a.2 a.3 (gate ∙ ap (λ (n : ℕ). k.gate + 5 + n) (sym e.4)) first a.4, a.4)

-- what items were found, and whether they joined, on a disk whose bytes are those of before
module _ (told mid : Option (List ℕ)) (k after new : Kept) (buffer : List ℕ) (f : Found) (size : ℕ) (b : Bool) (is : f ≡ found.Items size) (same : mid ≡ told) (same_kept : after ≡ k) (h : IfSome told (λ was. IsFound f k.gate buffer (drop k.gate was)))
    (answer : IfSome mid (λ was. (j : JournalData) → IsAt after was j → JoinAnswers b new j (take size buffer))) where
  abbrev All : Option (List ℕ) → Found → Bool → Type 0
  All t x y = IfSome t (λ was. IsFound x k.gate buffer (drop k.gate was)) × IfSome t (λ was. (j : JournalData) → IsAt k was j → JoinAnswers y new j (take size buffer))

  both : All told (found.Items size) b
  both = (subst (λ (x : Found). IfSome told (λ was. IsFound x k.gate buffer (drop k.gate was))) is h, subst (λ (x : Kept). IfSome told (λ was. (j : JournalData) → IsAt x was j → JoinAnswers b new j (take size buffer))) same_kept (subst (λ (t : Option (List ℕ)). IfSome t (λ was. (j : JournalData) → IsAt after was j → JoinAnswers b new j (take size buffer))) same answer))

  pub refused_told : b ≡ false → IfSome told (λ was. (j : JournalData) → IsAt k was j → StepAnswers k new was j (Err (fault.Damaged k.gate)))
  refused_told e = go told (subst (λ (y : Bool). All told (found.Items size) y) e both)
    where
      go : (t : Option (List ℕ)) → All t (found.Items size) false → IfSome t (λ was. (j : JournalData) → IsAt k was j → journal_of was ≡ Damaged k.gate)
      go None a = tt
      go (Some was) a = refused_some k new was buffer size a.0 a.1

  pub joined_told : b ≡ true → MatchBool b (new.gate ≡ after.gate + 5 + size) (new.gate ≡ after.gate) → new.front ≡ after.front → IfSome told (λ was. (j : JournalData) → IsAt k was j → StepAnswers k new was j (Ok true))
  joined_told e gate first = go told (subst (λ (y : Bool). All told (found.Items size) y) e both) (subst (λ (x : Kept). new.gate ≡ x.gate + 5 + size) same_kept (subst (λ (y : Bool). MatchBool y (new.gate ≡ after.gate + 5 + size) (new.gate ≡ after.gate)) e gate)) (subst (λ (x : Kept). new.front ≡ x.front) same_kept first)
    where
      go : (t : Option (List ℕ)) → All t (found.Items size) true → new.gate ≡ k.gate + 5 + size → new.front ≡ k.front → IfSome t (λ was. (j : JournalData) → IsAt k was j → (next : JournalData) × IsAt new was next × (ended next ≡ Is next))
      go None a g f = tt
      go (Some was) a g f = joined_some k new was buffer size a.0 a.1 g f
