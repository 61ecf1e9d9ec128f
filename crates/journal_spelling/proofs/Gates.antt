-- What stands before a gate is the spelling of what was read so far.
use Rattle.std.proofs.Common.{◌≡◌, ℕ, zero, suc, ◌+◌, ◌^◌, ◌<◌, ◌≤◌, Bool, true, false, ◌&&◌, not, cond, ◌==◌, nat_le, nat_lt, List, [], ◌∷◌, ◌++◌, length, drop, Option, Some, None, is_none, refl, sym, ap, subst, ◌∙◌, arith, append_assoc, append-nil, length-append, eqb-true, ◌⊎◌, inl, inr}
use Rattle.std.specs.Int.{w32, w64}
use Rattle.std.specs.List.{AllByRecursion}
use Rattle.std.proofs.lemmas.List.Elements.{recursion_from_All}
use Rattle.avm_num.specs.Bytes.{IsBytes, number_at}
use Rattle.avm_num.specs.Lists.{be, sized_at, sized_bytes, list_bytes}
use Rattle.avm_num.specs.Walk.{is_nil, all_at}
use Rattle.avm_num.proofs.Numbers.{Front, bind_some, kept_some, and_true, IsBytes-drop}
use Rattle.avm_num.proofs.Fields.{reads_32, reads_64, reads_sized}
use Rattle.avm_num.proofs.Lengths.{list_push, front_bytes_are, back_bytes_are}
use Rattle.journal_model.specs.Part.{Part, entry, seal, keep, part_at, signing}
use Rattle.journal_model.specs.Header.{HeaderData, header_at, most_leaves}
use Rattle.journal_model.specs.Journal.{JournalData, Gate, longest_record, has_room, parts, entries, follows, page_count_of, next_number, used, continues, has_snap, with_record, with_parts, with_mark, mark_at, begins_mark, joined, items_at, next_gate, is_open, Is, NoStore, ended, ended_with, passed, walk_gates, journal_from, journal_of, behind_header, first_gate}
use Rattle.journal_model.specs.Spelling.{header_bytes, parts_bytes, mark_items, record_bytes, front_bytes}
use Rattle.journal_model.proofs.Gates.{gate_shortens, length_sized}
use Rattle.journal_model.proofs.Prefixes.{ended_is}
use Rattle.journal_model.proofs.Cursors.{room_of}
use Rattle.journal_spelling.specs.Spelled.{Begins, FitsPart, FitsRecord, FitsFields}
use Rattle.journal_spelling.proofs.PartLaws.{parts_read}
use Rattle.journal_spelling.proofs.HeaderLaws.{header_read}

-- ---- the spelling of a longer journal

abbrev spell_record : List Part → List ℕ
spell_record ps = record_bytes (parts_bytes ps)

pushed : (h l x : List ℕ) → h ++ (l ++ x) ++ [] ≡ (h ++ l ++ []) ++ x
pushed h l x = append-nil (h ++ (l ++ x)) ∙ sym (append_assoc h l x) ∙ ap (λ (t : List ℕ). t ++ x) (sym (append-nil (h ++ l)))

pub front_push : (j : JournalData) (ps : List Part) → j.mark ≡ None → front_bytes (with_record j ps) ≡ front_bytes j ++ record_bytes (parts_bytes ps)
unfolding front_bytes
front_push j ps unmarked =
    rw unmarked (ap (λ (t : List ℕ). header_bytes j.header ++ t ++ []) (list_push spell_record j.records ps) ∙ pushed (header_bytes j.header) (list_bytes spell_record j.records) (spell_record ps))

pub front_mark : (j : JournalData) (n : ℕ) → j.mark ≡ None → front_bytes (record j { mark = Some n }) ≡ front_bytes j ++ record_bytes (mark_items n)
unfolding front_bytes
front_mark j n unmarked = rw unmarked (ap (λ (t : List ℕ). t ++ record_bytes (mark_items n)) (sym (append-nil (header_bytes j.header ++ list_bytes spell_record j.records))))

pub bare_front : (h : HeaderData) → front_bytes (record { header = h; records = []; mark = None }) ≡ header_bytes h
unfolding front_bytes
bare_front h = append-nil (header_bytes h ++ []) ∙ append-nil (header_bytes h)

pub length_record : (items : List ℕ) → length (record_bytes items) ≡ 5 + length items
unfolding record_bytes
length_record items = omega (arith, length_sized items)

-- ---- one record more

-- what is read so far has a spelling
record Sofar (c : List ℕ) (g : Gate) : Type 0 where
  bytes : c ≡ front_bytes g.journal ++ g.bytes
  place : g.place ≡ length (front_bytes g.journal)
  fits : IsBytes g.bytes
  fields : FitsFields g.journal.header
  records : AllByRecursion FitsRecord g.journal.records
  mark : (n : ℕ) → g.journal.mark ≡ Some n → (n < 2 ^ 64) × (has_snap n (entries g.journal) ≡ true)
  some : (g.journal.records ≡ []) ⊎ ((is_nil g.bytes ≡ false) × (g.place < 2 ^ 30))

-- a journal and the record that these items are
record Longer (j x : JournalData) (items : List ℕ) : Type 0 where
  header : x.header ≡ j.header
  text : front_bytes x ≡ front_bytes j ++ record_bytes items
  records : AllByRecursion FitsRecord x.records
  mark : (n : ℕ) → x.mark ≡ Some n → (n < 2 ^ 64) × (has_snap n (entries x) ≡ true)

begins_of : (first pages n : ℕ) (ps : List Part) → follows first pages n None ps ≡ true → 1 ≤ length (parts_bytes ps) → Begins ps
begins_of first pages n [] e some = absurd (omega (arith, some))
begins_of first pages n (entry f ∷ ps) e some = tt
begins_of first pages n (seal ∷ ps) e some = tt
begins_of first pages n (keep k ∷ ps) e some = absurd cc

pub all_push : {A : Type 0} (P : A → Type 0) (xs : List A) (x : A) → AllByRecursion P xs → P x → AllByRecursion P (xs ++ x ∷ [])
all_push P [] x all p = (p, tt)
all_push P (y ∷ ys) x all p = (all.0, all_push P ys x all.1 p)

by_parts : (j x : JournalData) (items : List ℕ) → j.mark ≡ None → AllByRecursion FitsRecord j.records → IsBytes items → 1 ≤ length items → length items ≤ longest_record → with_parts j items ≡ Some x → Longer j x items
unfolding with_parts continues
by_parts j x items unmarked records fits some few e =
    let a = bind_some (all_at part_at items) _ x e in
    let k = kept_some (continues j a.0) (with_record j a.0) x a.2 in
    let t = and_true (follows j.header.first (page_count_of j) (next_number j) None a.0) (nat_le (used j + signing a.0) (most_leaves j.header.key)) k.0 in
    let r = parts_read items a.0 fits a.1 in
    let size : length items ≡ length (parts_bytes a.0) = ap length r.0 in
    let fit : FitsRecord a.0 = record { begins = begins_of j.header.first (page_count_of j) (next_number j) a.0 t.0 (omega (arith, size, some)); parts = recursion_from_All FitsPart a.0 r.1; short = omega (arith, size, few) } in
    subst (λ (y : JournalData). Longer j y items) k.1 (record {
      header = refl;
      text = front_push j a.0 unmarked ∙ ap (λ (l : List ℕ). front_bytes j ++ record_bytes l) (sym r.0);
      records = all_push FitsRecord j.records a.0 records fit;
      mark = λ n is. absurd (never n (sym unmarked ∙ is));
    })
  where
    never : (n : ℕ) → ◌≡◌ {A = Option ℕ} None (Some n) → ⊥
    never n h = cc

nil_is : (bytes : List ℕ) → is_nil bytes ≡ true → bytes ≡ []
nil_is [] e = refl
nil_is (b ∷ bytes) e = absurd cc

mark_read : (bytes : List ℕ) (n : ℕ) → IsBytes bytes → mark_at bytes ≡ Some n → (bytes ≡ be w64 n) × (n < 2 ^ 64)
unfolding mark_at
mark_read bytes n fits e =
    let a = bind_some (number_at w64 bytes) _ n e in
    let k = kept_some (is_nil a.0.1) a.0.0 n a.2 in
    let f = reads_64.front bytes a.0 fits a.1 in
    let is : bytes ≡ be w64 a.0.0 = f.0.parts ∙ ap (λ (l : List ℕ). be w64 a.0.0 ++ l) (nil_is a.0.1 k.0) ∙ append-nil (be w64 a.0.0) in
    subst (λ (m : ℕ). (bytes ≡ be w64 m) × (m < 2 ^ 64)) k.1 (is, f.1)

mark_tag : (items : List ℕ) → begins_mark items ≡ true → items ≡ 4 ∷ drop 1 items
mark_tag [] e = absurd cc
mark_tag (tag ∷ items) e = ap (λ (t : ℕ). t ∷ items) (eqb-true tag 4 e)

by_mark : (j x : JournalData) (items : List ℕ) → j.mark ≡ None → AllByRecursion FitsRecord j.records → IsBytes items → begins_mark items ≡ true → with_mark j (drop 1 items) ≡ Some x → Longer j x items
unfolding with_mark entries parts
by_mark j x items unmarked records fits tagged e =
    let a = bind_some (mark_at (drop 1 items)) _ x e in
    let k = kept_some (has_snap a.0 (entries j)) (record j { mark = Some a.0 }) x a.2 in
    let r = mark_read (drop 1 items) a.0 (IsBytes-drop 1 items fits) a.1 in
    let is : items ≡ mark_items a.0 = mark_tag items tagged ∙ ap (λ (l : List ℕ). 4 ∷ l) r.0 in
    subst (λ (y : JournalData). Longer j y items) k.1 (record {
      header = refl;
      text = front_mark j a.0 unmarked ∙ ap (λ (l : List ℕ). front_bytes j ++ record_bytes l) (sym is);
      records = records;
      mark = λ n same. let m : a.0 ≡ n = cc in subst (λ (i : ℕ). (i < 2 ^ 64) × (has_snap i (entries j) ≡ true)) m (r.1, k.0);
    })

longer : (j x : JournalData) (items : List ℕ) → j.mark ≡ None → AllByRecursion FitsRecord j.records → IsBytes items → 1 ≤ length items → length items ≤ longest_record → joined j items ≡ Some x → Longer j x items
unfolding joined
longer j x items unmarked records fits some few e = go (begins_mark items) refl e
  where
    go : (t : Bool) → begins_mark items ≡ t → cond t (with_mark j (drop 1 items)) (with_parts j items) ≡ Some x → Longer j x items
    go true tagged h = by_mark j x items unmarked records fits tagged h
    go false tagged h = by_parts j x items unmarked records fits some few h

-- ---- from gate to gate

none_is : (o : Option ℕ) → is_none o ≡ true → o ≡ None
none_is None e = refl
none_is (Some n) e = absurd cc

not_nil : (bytes : List ℕ) → not (is_nil bytes) ≡ true → is_nil bytes ≡ false
not_nil [] e = absurd cc
not_nil (b ∷ bytes) e = refl

items_sized : (place : ℕ) (bytes : List ℕ) (p : List ℕ × List ℕ) → IsBytes bytes → items_at place bytes ≡ Some p → Front bytes (sized_bytes (be w32) p.0) p.1 × (is_nil p.1 ≡ false)
unfolding items_at
items_sized place bytes p fits e =
    let a = bind_some (sized_at (number_at w32) bytes) _ p e in
    let k = kept_some (has_room place a.0.0 a.0.1) a.0 p a.2 in
    let t = and_true (nat_le 1 (length a.0.0) && nat_le (length a.0.0) longest_record && not (is_nil a.0.1)) (nat_lt (place + 5 + length a.0.0) (2 ^ 30)) k.0 in
    let u = and_true (nat_le 1 (length a.0.0) && nat_le (length a.0.0) longest_record) (not (is_nil a.0.1)) t.0 in
    let f = (reads_sized reads_32).front bytes a.0 fits a.1 in
    subst (λ (q : List ℕ × List ℕ). Front bytes (sized_bytes (be w32) q.0) q.1 × (is_nil q.1 ≡ false)) k.1 (f.0, not_nil a.0.1 u.1)

opened : (bytes : List ℕ) → is_open bytes ≡ true → bytes ≡ 1 ∷ drop 1 bytes
opened [] e = absurd cc
opened (b ∷ bytes) e = ap (λ (n : ℕ). n ∷ bytes) (eqb-true b 1 e)

record_is : (bytes items rest : List ℕ) → is_open bytes ≡ true → drop 1 bytes ≡ sized_bytes (be w32) items ++ rest → bytes ≡ record_bytes items ++ rest
unfolding record_bytes
record_is bytes items rest e is = opened bytes e ∙ ap (λ (l : List ℕ). 1 ∷ l) is

next_sofar : (c : List ℕ) (g h : Gate) → Sofar c g → is_open g.bytes ≡ true → next_gate g ≡ Some h → Sofar c h
unfolding next_gate
next_sofar c g h s e some =
    let a = bind_some (items_at g.place (drop 1 g.bytes)) _ h some in
    let b = bind_some (joined g.journal a.0.0) _ h a.2 in
    let k = kept_some (is_none g.journal.mark) (record { journal = b.0; place = g.place + 5 + length a.0.0; bytes = a.0.1 }) h b.2 in
    let fits = IsBytes-drop 1 g.bytes s.fits in
    let f = items_sized g.place (drop 1 g.bytes) a.0 fits a.1 in
    let room = room_of g.place (drop 1 g.bytes) a.0 a.1 in
    let unmarked = none_is g.journal.mark k.0 in
    let inner : IsBytes a.0.0 = items_bytes (drop 1 g.bytes) a.0.0 a.0.1 fits f.0.parts in
    let l = longer g.journal b.0 a.0.0 unmarked s.records inner room.some room.few b.1 in
    let here : g.bytes ≡ record_bytes a.0.0 ++ a.0.1 = record_is g.bytes a.0.0 a.0.1 e f.0.parts in
    let size : length (front_bytes b.0) ≡ length (front_bytes g.journal) + length (record_bytes a.0.0) = ap length l.text ∙ length-append (front_bytes g.journal) (record_bytes a.0.0) in
    let at = s.place in
    subst (Sofar c) k.1 (record {
      bytes = s.bytes ∙ ap (λ (t : List ℕ). front_bytes g.journal ++ t) here ∙ sym (append_assoc (front_bytes g.journal) (record_bytes a.0.0) a.0.1) ∙ ap (λ (t : List ℕ). t ++ a.0.1) (sym l.text);
      place = omega (arith, at, size, length_record a.0.0);
      fits = f.0.rest_fits;
      fields = subst FitsFields (sym l.header) s.fields;
      records = l.records;
      mark = l.mark;
      some = inr (f.1, room.below);
    })
  where
    items_bytes : (bytes items rest : List ℕ) → IsBytes bytes → bytes ≡ sized_bytes (be w32) items ++ rest → IsBytes items
    items_bytes bytes items rest fits is =
        let all : IsBytes (be w32 (length items) ++ (items ++ rest)) = subst IsBytes (is ∙ append_assoc (be w32 (length items)) items rest) fits in
        front_bytes_are items rest (back_bytes_are (be w32 (length items)) (items ++ rest) all)

-- what the bytes are in the end
pub record Last (c : List ℕ) (x : JournalData) : Type 0 where
  pub gate : ℕ
  pub rest : List ℕ
  pub bytes : c ≡ front_bytes x ++ gate ∷ rest
  pub shut : (gate == 1) ≡ false
  pub fields : FitsFields x.header
  pub records : AllByRecursion FitsRecord x.records
  pub mark : (n : ℕ) → x.mark ≡ Some n → (n < 2 ^ 64) × (has_snap n (entries x) ≡ true)
  pub below : length (front_bytes x) < 2 ^ 30

last_is : (c : List ℕ) (g : Gate) (x : JournalData) → Sofar c g → is_open g.bytes ≡ false → ended g.journal ≡ Is x → Last c x
last_is c g x s shut e = subst (Last c) (ended_is g.journal x e) (elim s.some [ inl none ↦ absurd (never (sym (ap (λ (rs : List (List Part)). ended_with rs g.journal) none) ∙ e)) | inr t ↦ go g.bytes refl t ])
  where
    never : NoStore ≡ Is x → ⊥
    never h = cc

    go : (bytes : List ℕ) → g.bytes ≡ bytes → (is_nil g.bytes ≡ false) × (g.place < 2 ^ 30) → Last c g.journal
    go [] is t = absurd (let n : is_nil [] ≡ false = sym (ap is_nil is) ∙ t.0 in cc)
    go (gate ∷ rest) is t =
        let at = s.place in
        let low = t.1 in record {
          gate = gate;
          rest = rest;
          bytes = s.bytes ∙ ap (λ (l : List ℕ). front_bytes g.journal ++ l) is;
          shut = sym (ap is_open is) ∙ shut;
          fields = s.fields;
          records = s.records;
          mark = s.mark;
          below = omega (arith, at, low);
        }

walk_last : (c : List ℕ) (n : ℕ) (g : Gate) (x : JournalData) → length g.bytes ≤ n → Sofar c g → walk_gates n g ≡ Is x → Last c x
walk_last c zero g x few s e = last_is c g x s (empty g.bytes few) e
  where
    empty : (bytes : List ℕ) → length bytes ≤ 0 → is_open bytes ≡ false
    empty [] le = refl
    empty (b ∷ bytes) le = absurd (omega (arith, le))
walk_last c (suc n) g x few s e = gate (λ h le t q. walk_last c n h x le t q) (is_open g.bytes) refl e
  where
    Below : Type 0
    Below = (h : Gate) → length h.bytes ≤ n → Sofar c h → walk_gates n h ≡ Is x → Last c x

    go : Below → is_open g.bytes ≡ true → (r : Option Gate) → next_gate g ≡ r → passed g.place r (walk_gates n) ≡ Is x → Last c x
    go below is None none q = absurd cc
    go below is (Some h) some q = let fewer = gate_shortens g h some is in below h (omega (arith, fewer, few)) (next_sofar c g h s is some) q

    gate : Below → (o : Bool) → is_open g.bytes ≡ o → cond o (passed g.place (next_gate g) (walk_gates n)) (ended g.journal) ≡ Is x → Last c x
    gate below true is q = go below is (next_gate g) refl q
    gate below false is q = last_is c g x s is q

pub journal_last : (c : List ℕ) (x : JournalData) → IsBytes c → journal_of c ≡ Is x → Last c x
unfolding journal_of journal_from entries
journal_last c x fits e = go (header_at c) refl e
  where
    go : (r : Option (HeaderData × List ℕ)) → header_at c ≡ r → behind_header (length c) r ≡ Is x → Last c x
    go None q h = absurd cc
    go (Some p) q h =
        let f = header_read c p fits q in
        let g = first_gate (length c) p in
        let front : front_bytes g.journal ≡ header_bytes p.0 = bare_front p.0 in
        let size : length c ≡ length (header_bytes p.0 ++ p.1) = ap length f.0.parts in
        let same : length (front_bytes g.journal) ≡ length (header_bytes p.0) = ap length front in
        walk_last c (length p.1) g x (omega arith) (record {
          bytes = f.0.parts ∙ ap (λ (t : List ℕ). t ++ p.1) (sym front);
          place = omega (arith, size, same, length-append (header_bytes p.0) p.1);
          fits = f.0.rest_fits;
          fields = f.1;
          records = tt;
          mark = λ n is. absurd cc;
          some = inl refl;
        }) h
