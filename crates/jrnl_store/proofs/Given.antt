-- What is left of a journal's items from a cursor on.
use Rattle.std.proofs.Common.{◌≡◌, ℕ, ◌+◌, ◌≤◌, Bool, true, false, cond, refl, sym, ◌∙◌, ap, subst, Option, None, Some, option_map, IfSome, ◌<◌, ◌^◌, Result, List, [], ◌∷◌, ◌++◌, length, take, drop, fold, Ok, Err, arith, append_assoc, append-nil}
use Rattle.std.specs.List.{flat_map}
use Rattle.std.proofs.lemmas.List.{take_at, drop_at}
use Rattle.std.proofs.lemmas.Grind.{flat_map-append}
use Rattle.avm_num.specs.Walk.{all_at, items_of, is_nil, behind_of}
use Rattle.avm_num.proofs.Numbers.{bind_some, kept_some}
use Rattle.journal_model.specs.Part.{Part, part_at}
use Rattle.journal_model.specs.Header.{HeaderData}
use Rattle.journal_model.specs.Journal.{JournalData, longest_record, parts, entries, has_snap, continues, with_record, with_parts, with_mark, mark_at, begins_mark, joined, is_open, Is, Damaged, ended, IsFront}
use Rattle.journal_model.specs.Standing.{StandingData, Bounds, behind, start, standing, bounds, continued}
use Rattle.journal_model.proofs.Gates.{from_damaged, next_marked}
use Rattle.journal_model.proofs.Judging.{with_parts_stands}
use Rattle.journal_model.proofs.Prefixes.{Extends, extends_refl, from_extends, before_last}
use Rattle.journal_model.proofs.Cursors.{cursor_end, cursor_shut}
use Rattle.jrnl_part.specs.Views.{standing_view}
use Rattle.jrnl_store.specs.Kept.{Kept}
use Rattle.jrnl_store.specs.Own.{IsAt, IsCursor, NextAnswers, bare}
use Rattle.jrnl_store.specs.Items.{ItemData, item_of, items_from, part_items, PartsLeft, MovedAnswers, held_items, are_whole}
use Rattle.jrnl_store.specs.declared.fault.StoreFault.{StoreFault}
use Rattle.jrnl_store.specs.declared.fault.StoreFault.TheVariants as fault
use Rattle.jrnl_store.specs.declared.cursor.Cursor.{Cursor}
use Rattle.jrnl_store.proofs.Commits.{no_mark}
use Rattle.jrnl_store.proofs.Opening.{bare_standing}
use Rattle.jrnl_store.proofs.Moving.{Moves}

front_is : (k : Kept) (was : List ℕ) (j : JournalData) (o : IsAt k was j) → take k.gate was ≡ o.front
front_is k was j o = ap (take k.gate) o.read.2 ∙ take_at o.front (o.read.0 ∷ o.read.1) k.gate o.place

-- ---- the first item

pub starts : (k : Kept) (was : List ℕ) (j : JournalData) (c : Cursor) → IsAt k was j → c.place ≡ k.front
    → standing_view c.stand ≡ record { next = k.bounds.first; hash = k.before; prior = k.before; used = k.leaves; sealed = false; signed = None } → PartsLeft k was c j (part_items j)
unfolding part_items parts
starts k was j c o at is =
    let first : k.bounds.first ≡ j.header.first = ap (λ (b : Bounds). b.first) o.keeps.bounds in
    let same : record { next = k.bounds.first; hash = k.before; prior = k.before; used = k.leaves; sealed = false; signed = None } ≡ start j.header = rw (first, o.keeps.before, o.keeps.leaves) refl in
    record {
      so_far = bare j;
      cursor = record { front = o.base.header; tail = o.base.tail; at = o.base.at ∙ sym at; stands = o.base.starts; read = front_is k was j o ∙ o.base.read };
      stands = is ∙ same ∙ sym (bare_standing j.header);
      items = refl;
    }

-- ---- lists of items

items_append : (s : StandingData) (ps qs : List Part) → items_from s (ps ++ qs) ≡ items_from s ps ++ items_from (fold behind s ps) qs
items_append s [] qs = refl
items_append s (p ∷ ps) qs = ap (λ (l : List ItemData). item_of s p ∷ l) (items_append (behind s p) ps qs)

more_items : (i j : JournalData) → Extends i j → (rest : List ItemData) × (part_items j ≡ part_items i ++ rest)
unfolding part_items parts
more_items i j e =
    let all = λ (r : List Part). r in
    let ps = flat_map all i.records in
    let qs = flat_map all e.more in (
      items_from (fold behind (start i.header) ps) qs,
      ap (λ (h : HeaderData). items_from (start h) (flat_map all j.records)) e.header ∙ ap (λ (rs : List (List Part)). items_from (start i.header) (flat_map all rs)) e.records ∙ ap (items_from (start i.header)) (flat_map-append all i.records e.more) ∙ items_append (start i.header) ps qs,
    )

items_push : (i : JournalData) (ps : List Part) → part_items (with_record i ps) ≡ part_items i ++ items_from (standing i) ps
unfolding part_items parts standing
items_push i ps =
    let all = λ (r : List Part). r in
    ap (items_from (start i.header)) (flat_map-append all i.records (ps ∷ []) ∙ ap (λ (l : List Part). flat_map all i.records ++ l) (append-nil ps)) ∙ items_append (start i.header) (flat_map all i.records) ps

items_marked : (i : JournalData) (n : ℕ) → part_items (record i { mark = Some n }) ≡ part_items i
unfolding part_items parts
items_marked i n = refl

cancel : (xs ys zs : List ItemData) → xs ++ ys ≡ xs ++ zs → ys ≡ zs
cancel xs ys zs e = sym (drop_at xs ys (length xs) refl) ∙ ap (drop (length xs)) e ∙ drop_at xs zs (length xs) refl

none_left : (xs left : List ItemData) → xs ≡ xs ++ left → left ≡ []
none_left xs left e = sym (cancel xs [] left (append-nil xs ∙ e))

-- ---- a cursor

extends_at : (place : ℕ) (whole : List ℕ) (i j : JournalData) → IsCursor place whole i → IsFront j whole → ended j ≡ Is j → Extends i j
extends_at place whole i j c last begun = go c.tail c.read
  where
    go : (tail : List ℕ) → whole ≡ c.front ++ tail → Extends i j
    go [] e = subst (Extends i) (cursor_end i j c.front [] whole c.stands last e refl begun) (extends_refl i)
    go (b ∷ ts) e = from_extends (record { journal = i; place = length c.front; bytes = b ∷ (ts ++ 0 ∷ []) }) j (before_last i j c.front whole b ts c.stands last e begun)

-- nothing stands behind a mark
marked_end : (place : ℕ) (whole : List ℕ) (i j : JournalData) (n : ℕ) → i.mark ≡ Some n → IsCursor place whole i → IsFront j whole → ended j ≡ Is j → i ≡ j
marked_end place whole i j n marked c last begun = go c.tail c.read
  where
    at : (b : ℕ) (ts : List ℕ) → whole ≡ c.front ++ b ∷ ts → (t : Bool) → is_open (b ∷ ts) ≡ t → i ≡ j
    at b ts e false is = cursor_shut i j c.front b ts whole c.stands last e begun is
    at b ts e true is =
        let d = from_damaged (record { journal = i; place = length c.front; bytes = b ∷ (ts ++ 0 ∷ []) }) is (next_marked i (length c.front) b (ts ++ 0 ∷ []) n marked) in
        let no_journal : Damaged (length c.front) ≡ Is j = sym d ∙ before_last i j c.front whole b ts c.stands last e begun in
        absurd cc

    go : (tail : List ℕ) → whole ≡ c.front ++ tail → i ≡ j
    go [] e = cursor_end i j c.front [] whole c.stands last e refl begun
    go (b ∷ ts) e = at b ts e (is_open (b ∷ ts)) refl

abbrev bounds_of : HeaderData → Bounds
bounds_of h = bounds (record { header = h; records = []; mark = None })

map_some : {A B : Type 0} (f : A → B) (o : Option A) (y : B) → option_map f o ≡ Some y → (x : A) × (o ≡ Some x) × (f x ≡ y)
map_some f None y e = absurd cc
map_some f (Some x) y e = (x, refl, cc)

map_none : {A B : Type 0} (f : A → B) (o : Option A) → option_map f o ≡ None → o ≡ None
map_none f None e = refl
map_none f (Some x) e = absurd cc

module _ (k : Kept) (was : List ℕ) (c : Cursor) (j : JournalData) (left : List ItemData) (o : IsAt k was j) (begun : ended j ≡ Is j) (l : PartsLeft k was c j left) where
  here : IsCursor c.place o.front l.so_far
  here = subst (λ (w : List ℕ). IsCursor c.place w l.so_far) (front_is k was j o) l.cursor

  whole : l.so_far ≡ j → left ≡ []
  whole e = none_left (part_items l.so_far) left (ap part_items e ∙ l.items)

  -- parts are read as where the cursor stands
  reads_on : (items : List ℕ) → option_map standing (with_parts l.so_far items) ≡ continued k.bounds (standing_view c.stand) items
  reads_on items =
      let e = extends_at c.place o.front l.so_far j here o.stands begun in
      let same : bounds l.so_far ≡ k.bounds = sym (ap bounds_of e.header) ∙ sym o.keeps.bounds in
      with_parts_stands l.so_far items ∙ ap (λ (b : Bounds). continued b (standing l.so_far) items) same ∙ ap (λ (s : StandingData). continued k.bounds s items) (sym l.stands)

  -- items that are no parts are the mark
  at_mark : (place : ℕ) (items : List ℕ) (next : JournalData) → continued k.bounds (standing_view c.stand) items ≡ None → joined l.so_far items ≡ Some next → IsCursor place o.front next → left ≡ []
  unfolding joined with_mark
  at_mark place items next none e there = go (begins_mark items) e
    where
      by_mark : with_mark l.so_far (drop 1 items) ≡ Some next → left ≡ []
      by_mark h =
          let a = bind_some (mark_at (drop 1 items)) _ next h in
          let t = kept_some (has_snap a.0 (entries l.so_far)) (record l.so_far { mark = Some a.0 }) next a.2 in
          let marked : next.mark ≡ Some a.0 = ap (λ (x : JournalData). x.mark) (sym t.1) in
          let last : next ≡ j = marked_end place o.front next j a.0 marked there o.stands begun in
          none_left (part_items l.so_far) left (sym (items_marked l.so_far a.0) ∙ ap part_items (t.1 ∙ last) ∙ l.items)

      by_parts : with_parts l.so_far items ≡ Some next → left ≡ []
      by_parts h = absurd (let n = map_none standing (with_parts l.so_far items) (reads_on items ∙ none) in let both : None ≡ Some next = sym n ∙ h in cc)

      go : (t : Bool) → cond t (with_mark l.so_far (drop 1 items)) (with_parts l.so_far items) ≡ Some next → left ≡ []
      go true h = by_mark h
      go false h = by_parts h

  at_parts : (new : Cursor) (items : List ℕ) (next : JournalData) (s : StandingData) → continued k.bounds (standing_view c.stand) items ≡ Some s → joined l.so_far items ≡ Some next → IsCursor new.place o.front next → standing_view new.stand ≡ s
      → (rest : List ItemData) × (left ≡ items_from (standing_view c.stand) (items_of part_at items) ++ rest) × PartsLeft k was new j rest
  unfolding joined with_parts
  at_parts new items next s some e there stand =
      let i = l.so_far in
      let m = map_some standing (with_parts l.so_far items) s (reads_on items ∙ some) in
      let a = bind_some (all_at part_at items) _ m.0 m.1 in
      let t = kept_some (continues l.so_far a.0) (with_record l.so_far a.0) m.0 a.2 in
      let parts_are = kept_some (is_nil (behind_of part_at items)) (items_of part_at items) a.0 a.1 in
      let joins : joined l.so_far items ≡ Some m.0 = rw (no_mark items a.0 a.1) m.1 in
      let both : Some next ≡ Some m.0 = sym e ∙ joins in
      let same : next ≡ m.0 = cc in
      let given : part_items next ≡ part_items l.so_far ++ items_from (standing_view c.stand) (items_of part_at items) =
      ap part_items (same ∙ sym t.1) ∙ items_push l.so_far a.0 ∙ ap (λ (ps : List Part). part_items l.so_far ++ items_from (standing l.so_far) ps) (sym parts_are.1) ∙ ap (λ (x : StandingData). part_items l.so_far ++ items_from x (items_of part_at items)) (sym l.stands) in
      let r = more_items next j (extends_at new.place o.front next j there o.stands begun) in
      let all : part_items l.so_far ++ left ≡ part_items l.so_far ++ (items_from (standing_view c.stand) (items_of part_at items) ++ r.0) =
      sym l.items ∙ r.1 ∙ ap (λ (x : List ItemData). x ++ r.0) given ∙ append_assoc (part_items l.so_far) (items_from (standing_view c.stand) (items_of part_at items)) r.0 in (
        r.0,
        cancel (part_items l.so_far) left (items_from (standing_view c.stand) (items_of part_at items) ++ r.0) all,
        record {
          so_far = next;
          cursor = subst (λ (w : List ℕ). IsCursor new.place w next) (sym (front_is k was j o)) there;
          stands = stand ∙ sym m.2 ∙ ap standing (sym same);
          items = r.1;
        },
      )

-- ---- what a read tells of them

abbrev pub Next : Kept → Cursor → List ℕ → Result (Option ℕ) StoreFault → List ℕ → Type 0
Next k c buffer r was = Moves k was c.place (λ i j whole. NextAnswers c.place whole i j buffer r)

abbrev pub AllLeft : Kept → Cursor → (List ℕ → JournalData → List ItemData → Type 0) → List ℕ → Type 0
AllLeft k c P was = (j : JournalData) (left : List ItemData) → IsAt k was j → ended j ≡ Is j → PartsLeft k was c j left → P was j left

pub told_none : (told : Option (List ℕ)) (k : Kept) (c : Cursor) (buffer : List ℕ) (v : Option ℕ) → v ≡ None → IfSome told (Next k c buffer (Ok v)) → IfSome told (AllLeft k c (λ was j left. left ≡ []))
told_none None k c buffer v is h = tt
told_none (Some was) k c buffer v is h = λ j left o begun l.
    whole k was c j left o begun l (subst (λ (x : Option ℕ). NextAnswers c.place o.front l.so_far j buffer (Ok x)) is (h l.so_far j o begun (here k was c j left o begun l)))

refused : {T : Type 0} (items : T → List ItemData) (e : StoreFault) (k : Kept) (was : List ℕ) (place : ℕ) (front buffer : List ℕ) (c : Cursor) (i j : JournalData) (left : List ItemData) → NextAnswers place front i j buffer (Err e) → MovedAnswers items (PartsLeft k was c j) left (Err e)
refused items fault.NoMemory k was place front buffer c i j left a = a
refused items fault.DiskFault k was place front buffer c i j left a = tt
refused items fault.NotEmpty k was place front buffer c i j left a = a
refused items fault.NoStore k was place front buffer c i j left a = a
refused items (fault.Damaged p) k was place front buffer c i j left a = a
refused items fault.LeavesSpent k was place front buffer c i j left a = a
refused items fault.Full k was place front buffer c i j left a = a
refused items (fault.Ended s) k was place front buffer c i j left a = a

pub told_refused : {T : Type 0} (items : T → List ItemData) (told : Option (List ℕ)) (k : Kept) (c new : Cursor) (buffer : List ℕ) (e : StoreFault) → IfSome told (Next k c buffer (Err e)) → IfSome told (AllLeft k c (λ was j left. MovedAnswers items (PartsLeft k was new j) left (Err e)))
told_refused items None k c new buffer e h = tt
told_refused items (Some was) k c new buffer e h = λ j left o begun l. refused items e k was c.place o.front buffer new l.so_far j left (h l.so_far j o begun (here k was c j left o begun l))

module _ (k after : Kept) (c : Cursor) (buffer : List ℕ) (v : Option ℕ) (size : ℕ) (is : v ≡ Some size) (same : after ≡ k) where
  found : (was : List ℕ) (j : JournalData) (left : List ItemData) (o : IsAt k was j) (begun : ended j ≡ Is j) (l : PartsLeft k was c j left) → Next k c buffer (Ok v) was → NextAnswers c.place o.front l.so_far j buffer (Ok (Some size))
  found was j left o begun l h = subst (λ (x : Option ℕ). NextAnswers c.place o.front l.so_far j buffer (Ok x)) is (h l.so_far j o begun (here k was c j left o begun l))

  reads : (r : Option StandingData) → continued after.bounds (standing_view c.stand) (take size buffer) ≡ r → continued k.bounds (standing_view c.stand) (take size buffer) ≡ r
  reads r e = ap (λ (x : Kept). continued x.bounds (standing_view c.stand) (take size buffer)) (sym same) ∙ e

  pub told_mark : (told : Option (List ℕ)) → continued after.bounds (standing_view c.stand) (take size buffer) ≡ None → IfSome told (Next k c buffer (Ok v)) → IfSome told (AllLeft k c (λ was j left. left ≡ []))
  told_mark None e h = tt
  told_mark (Some was) e h = λ j left o begun l.
      let n = found was j left o begun l h in
      at_mark k was c j left o begun l (c.place + 5 + size) (take size buffer) n.0 (reads None e) n.1 n.2

  pub told_parts : (told : Option (List ℕ)) (new : Cursor) (s : StandingData) → new.place ≡ c.place + 5 + size → standing_view new.stand ≡ s → continued after.bounds (standing_view c.stand) (take size buffer) ≡ Some s → IfSome told (Next k c buffer (Ok v))
      → IfSome told (AllLeft k c (λ was j left. (rest : List ItemData) × (left ≡ held_items buffer (record { carried = false; size = size; stand = c.stand }) ++ rest) × PartsLeft k was new j rest))
  told_parts None new s at stand e h = tt
  told_parts (Some was) new s at stand e h = λ j left o begun l.
      let n = found was j left o begun l h in
      at_parts k was c j left o begun l new (take size buffer) n.0 s (reads (Some s) e) n.1 (subst (λ (p : ℕ). IsCursor p o.front n.0) (sym at) n.2) stand

pub is_whole : (b : Bounds) (s t : StandingData) (items : List ℕ) → continued b s items ≡ Some t → are_whole b s None items ≡ true
unfolding continued
is_whole b s t items e = rw e refl

pub size_few : (v : Option ℕ) (size place : ℕ) → v ≡ Some size → IfSome v (λ n. n ≤ longest_record × (place + 5 + n < 2 ^ 30)) → size ≤ longest_record + 5
size_few v size place is h = let few = (subst (λ (x : Option ℕ). IfSome x (λ n. n ≤ longest_record × (place + 5 + n < 2 ^ 30))) is h).0 in omega (arith, few)
