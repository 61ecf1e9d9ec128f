-- The spelling of a journal is what stands before its last gate.
use Rattle.std.proofs.Common.{◌≡◌, ℕ, zero, suc, ◌+◌, ◌^◌, ◌<◌, ◌≤◌, true, false, ◌&&◌, ◌==◌, nat_lt, List, [], ◌∷◌, ◌++◌, length, take, drop, get_or, Option, Some, None, refl, sym, ap, subst, ◌∙◌, arith, append_assoc, append-nil, length-append, take-append-drop, le-leb}
use Rattle.std.proofs.lemmas.Bool.{and_from}
use Rattle.std.proofs.lemmas.List.{take_at, drop_at, length-take-le}
use Rattle.std.specs.Int.{w32, w64}
use Rattle.std.specs.List.{AllByRecursion, flat_map}
use Rattle.std.proofs.lemmas.List.Elements.{All-from_recursion}
use Rattle.avm_num.specs.Bytes.{IsBytes, number_at}
use Rattle.avm_num.specs.Lists.{be, sized_bytes, list_bytes}
use Rattle.avm_num.proofs.Numbers.{and_true}
use Rattle.avm_num.proofs.Fields.{reads_64}
use Rattle.avm_num.proofs.Lengths.{list_append, bytes_append}
use Rattle.journal_model.specs.Part.{Part, entry, seal, keep, frames_in, signing, pages_of}
use Rattle.journal_model.specs.Header.{header_at, most_leaves}
use Rattle.journal_model.specs.Journal.{JournalData, HasRoom, parts, entries, next_number, used, follows, may_stand, snap_of, is_number, pages_ascend, page_count_of, continues, has_snap, with_record, with_parts, with_mark, mark_at, begins_mark, joined, Is, Damaged, ended, ended_with, journal_from, journal_of, behind_header, IsFront}
use Rattle.journal_model.specs.Spelling.{header_bytes, part_bytes, parts_bytes, mark_items, record_bytes, front_bytes}
use Rattle.journal_model.proofs.Judging.{signing_append}
use Rattle.journal_model.proofs.Prefixes.{Extends, more_parts}
use Rattle.journal_model.proofs.Gates.{front_goes, from_closed, from_damaged, next_lacking, items_cut}
use Rattle.journal_model.proofs.Fitting.{journal_fits}
use Rattle.journal_spelling.specs.Spelled.{Begins, FitsPart, FitsRecord, HasSpelling}
use Rattle.journal_spelling.proofs.PartLaws.{parts_again}
use Rattle.journal_spelling.proofs.HeaderLaws.{header_again}
use Rattle.journal_spelling.proofs.Gates.{front_push, front_mark, bare_front, length_record, journal_last}

-- ---- parts that follow parts

begins_more : (a b : List Part) → Begins a → Begins (a ++ b)
begins_more [] b h = absurd h
begins_more (entry f ∷ a) b h = tt
begins_more (seal ∷ a) b h = tt
begins_more (keep k ∷ a) b h = absurd h

anywhere : (first pages n : ℕ) (snap : Option ℕ) (b : List Part) → Begins b → follows first pages n snap b ≡ true → follows first pages n None b ≡ true
anywhere first pages n snap [] h e = absurd h
anywhere first pages n snap (entry f ∷ b) h e = e
anywhere first pages n snap (seal ∷ b) h e = e
anywhere first pages n snap (keep k ∷ b) h e = absurd h

pub follows_back : (first pages n : ℕ) (snap : Option ℕ) (a b : List Part) → Begins b → follows first pages n snap (a ++ b) ≡ true → follows first pages (n + length (frames_in a)) None b ≡ true
follows_back first pages n snap [] b h e = let z : n + 0 ≡ n = omega arith in rw z (anywhere first pages n snap b h e)
follows_back first pages n snap (entry f ∷ a) b h e =
    let t = and_true (f.seq == n && may_stand first n f.kind) (follows first pages (n + 1) (snap_of f) (a ++ b)) e in
    let z : n + length (frames_in (entry f ∷ a)) ≡ n + 1 + length (frames_in a) = omega arith in
    rw z (follows_back first pages (n + 1) (snap_of f) a b h t.1)
follows_back first pages n snap (seal ∷ a) b h e = follows_back first pages n None a b h (and_true (nat_lt first n) (follows first pages n None (a ++ b)) e).1
follows_back first pages n snap (keep k ∷ a) b h e = follows_back first pages n None a b h (and_true (is_number snap k.seq && pages_ascend 0 pages (pages_of k)) (follows first pages n None (a ++ b)) e).1

pub follows_front : (first pages n : ℕ) (snap : Option ℕ) (a b : List Part) → follows first pages n snap (a ++ b) ≡ true → follows first pages n snap a ≡ true
follows_front first pages n snap [] b e = refl
follows_front first pages n snap (entry f ∷ a) b e =
    let t = and_true (f.seq == n && may_stand first n f.kind) (follows first pages (n + 1) (snap_of f) (a ++ b)) e in
    and_from _ _ t.0 (follows_front first pages (n + 1) (snap_of f) a b t.1)
follows_front first pages n snap (seal ∷ a) b e =
    let t = and_true (nat_lt first n) (follows first pages n None (a ++ b)) e in
    and_from _ _ t.0 (follows_front first pages n None a b t.1)
follows_front first pages n snap (keep k ∷ a) b e =
    let t = and_true (is_number snap k.seq && pages_ascend 0 pages (pages_of k)) (follows first pages n None (a ++ b)) e in
    and_from _ _ t.0 (follows_front first pages n None a b t.1)

-- ---- one record

no_tag : (ps : List Part) → Begins ps → (begins_mark (parts_bytes ps) ≡ false) × (1 ≤ length (parts_bytes ps))
unfolding part_bytes
no_tag [] h = absurd h
no_tag (entry f ∷ ps) h = (refl, omega arith)
no_tag (seal ∷ ps) h = (refl, omega arith)
no_tag (keep k ∷ ps) h = absurd h

record_joins : (i : JournalData) (r : List Part) → FitsRecord r → continues i r ≡ true → joined i (parts_bytes r) ≡ Some (with_record i r)
unfolding joined with_parts
record_joins i r fits e = rw ((no_tag r fits.begins).0, parts_again r (All-from_recursion FitsPart r fits.parts), e) refl

-- a journal's records up to one of them
abbrev at : JournalData → List (List Part) → JournalData
at j done = record { header = j.header; records = done; mark = None }

-- what is asked of the whole
record Whole (j : JournalData) : Type 0 where
  follow : follows j.header.first (page_count_of j) j.header.first None (parts j) ≡ true
  leaves : used j ≤ most_leaves j.header.key
  below : length (front_bytes j) < 2 ^ 30

abbrev spell_record : List Part → List ℕ
spell_record ps = record_bytes (parts_bytes ps)

record_continues : (j : JournalData) (done todo : List (List Part)) (r : List Part) → Whole j → j.records ≡ done ++ r ∷ todo → Begins r → continues (at j done) r ≡ true
unfolding continues next_number used entries
record_continues j done todo r w e h =
    let ext : Extends (at j done) j = record { header = refl; more = r ∷ todo; records = e } in
    let split : parts j ≡ parts (at j done) ++ (r ++ flat_map (λ (p : List Part). p) todo) = more_parts (at j done) j ext in
    let all : follows j.header.first (page_count_of j) j.header.first None (parts (at j done) ++ (r ++ flat_map (λ (p : List Part). p) todo)) ≡ true = subst (λ (ps : List Part). follows j.header.first (page_count_of j) j.header.first None ps ≡ true) split w.follow in
    let back = follows_back j.header.first (page_count_of j) j.header.first None (parts (at j done)) (r ++ flat_map (λ (p : List Part). p) todo) (begins_more r (flat_map (λ (p : List Part). p) todo) h) all in
    let here = follows_front j.header.first (page_count_of j) (j.header.first + length (frames_in (parts (at j done)))) None r (flat_map (λ (p : List Part). p) todo) back in
    let sign : signing (parts j) ≡ signing (parts (at j done)) + (signing r + signing (flat_map (λ (p : List Part). p) todo)) =
    ap signing split ∙ signing_append (parts (at j done)) (r ++ flat_map (λ (p : List Part). p) todo) ∙ ap (λ (n : ℕ). signing (parts (at j done)) + n) (signing_append r (flat_map (λ (p : List Part). p) todo)) in
    let low = w.leaves in
    and_from _ _ here (le-leb _ _ (omega (arith, low, sign)))

text_of : (j : JournalData) (done todo : List (List Part)) → j.mark ≡ None → j.records ≡ done ++ todo → length (front_bytes j) ≡ length (front_bytes (at j done)) + length (list_bytes spell_record todo)
unfolding front_bytes
text_of j done todo unmarked e =
    let list : list_bytes spell_record j.records ≡ list_bytes spell_record done ++ list_bytes spell_record todo = ap (list_bytes spell_record) e ∙ list_append spell_record done todo in
    rw (unmarked, list) (sizes (header_bytes j.header) (list_bytes spell_record done) (list_bytes spell_record todo))
  where
    sizes : (h a b : List ℕ) → length (h ++ (a ++ b) ++ []) ≡ length (h ++ a ++ []) + length b
    sizes h a b = rw (append-nil (h ++ (a ++ b)), append-nil (h ++ a)) (omega (arith, length-append h (a ++ b), length-append a b, length-append h a))

record_room : (j : JournalData) (done todo : List (List Part)) (r : List Part) → Whole j → j.mark ≡ None → j.records ≡ done ++ r ∷ todo → FitsRecord r → HasRoom (length (front_bytes (at j done))) (parts_bytes r)
record_room j done todo r w unmarked e fits =
    let size = text_of j done (r ∷ todo) unmarked e in
    let more : length (list_bytes spell_record (r ∷ todo)) ≡ length (spell_record r) + length (list_bytes spell_record todo) = length-append (spell_record r) (list_bytes spell_record todo) in
    let low = w.below in
    record { some = (no_tag r fits.begins).1; few = fits.short; below = omega (arith, size, more, low, length_record (parts_bytes r)) }

pushed_front : (i : JournalData) (r : List Part) → i.mark ≡ None → IsFront (with_record i r) (front_bytes i ++ 1 ∷ sized_bytes (be w32) (parts_bytes r)) → IsFront (with_record i r) (front_bytes (with_record i r))
unfolding record_bytes
pushed_front i r unmarked is = subst (λ (t : List ℕ). IsFront (with_record i r) t) (sym (front_push i r unmarked)) is

stands_from : (j : JournalData) → Whole j → j.mark ≡ None → (done todo : List (List Part)) → j.records ≡ done ++ todo → AllByRecursion FitsRecord todo → IsFront (at j done) (front_bytes (at j done)) → IsFront j (front_bytes j)
stands_from j w unmarked done [] e all is =
    let same : at j done ≡ j = ap (λ (rs : List (List Part)). record { header = j.header; records = rs; mark = None }) (sym (append-nil done) ∙ sym e) ∙ ap (λ (m : Option ℕ). record { header = j.header; records = j.records; mark = m }) (sym unmarked) in
    subst (λ (i : JournalData). IsFront i (front_bytes i)) same is
stands_from j w unmarked done (r ∷ todo) e all is =
    let i = at j done in
    let joins = record_joins i r all.0 (record_continues j done todo r w e all.0.begins) in
    let goes = front_goes i (with_record i r) (front_bytes i) (parts_bytes r) is joins refl (record_room j done todo r w unmarked e all.0) in
    stands_from j w unmarked (done ++ r ∷ []) todo (e ∙ sym (append_assoc done (r ∷ []) todo)) all.1 (pushed_front i r refl goes)

-- ---- the header, and the mark

bare_stands : (j : JournalData) → HasSpelling j → IsFront (at j []) (front_bytes (at j []))
unfolding journal_of
bare_stands j s gate rest =
    let read : header_at (header_bytes j.header ++ gate ∷ rest) ≡ Some (j.header, gate ∷ rest) = header_again j.header (gate ∷ rest) s.journal.header s.fields in
    rw (bare_front j.header) (ap (behind_header (length (header_bytes j.header ++ gate ∷ rest))) read ∙ ap (λ (n : ℕ). journal_from (record { journal = at j []; place = n; bytes = gate ∷ rest })) (omega (arith, length-append (header_bytes j.header) (gate ∷ rest))))

mark_joins : (j : JournalData) (n : ℕ) → n < 2 ^ 64 → has_snap n (entries j) ≡ true → joined j (mark_items n) ≡ Some (record j { mark = Some n })
unfolding joined with_mark mark_at
mark_joins j n low e =
    let read : number_at w64 (be w64 n) ≡ Some (n, []) = ap (number_at w64) (sym (append-nil (be w64 n))) ∙ reads_64.again n [] low in
    rw (read, e) refl

mark_size : (n : ℕ) → length (mark_items n) ≡ 9
unfolding be
mark_size n = refl

marked_front : (i : JournalData) (n : ℕ) → i.mark ≡ None → IsFront (record i { mark = Some n }) (front_bytes i ++ 1 ∷ sized_bytes (be w32) (mark_items n)) → IsFront (record i { mark = Some n }) (front_bytes (record i { mark = Some n }))
unfolding record_bytes
marked_front i n unmarked is = subst (λ (t : List ℕ). IsFront (record i { mark = Some n }) t) (sym (front_mark i n unmarked)) is

unmarked_whole : (j : JournalData) → HasSpelling j → length (front_bytes (at j j.records)) < 2 ^ 30 → Whole (at j j.records)
unfolding parts used
unmarked_whole j s low = record { follow = s.journal.whole; leaves = s.journal.leaves; below = low }

spelled_stands : (j : JournalData) (m : Option ℕ) → j.mark ≡ m → HasSpelling j → IsFront j (front_bytes j)
unfolding entries parts
spelled_stands j None e s =
    let same : at j j.records ≡ j = ap (λ (m : Option ℕ). record { header = j.header; records = j.records; mark = m }) (sym e) in
    let low : length (front_bytes (at j j.records)) < 2 ^ 30 = subst (λ (i : JournalData). length (front_bytes i) < 2 ^ 30) (sym same) s.below in
    subst (λ (i : JournalData). IsFront i (front_bytes i)) same (stands_from (at j j.records) (unmarked_whole j s low) refl [] j.records refl s.records (bare_stands j s))
spelled_stands j (Some n) e s =
    let i = at j j.records in
    let same : record i { mark = Some n } ≡ j = ap (λ (m : Option ℕ). record { header = j.header; records = j.records; mark = m }) (sym e) in
    let size : length (front_bytes j) ≡ length (front_bytes i) + length (record_bytes (mark_items n)) = ap (λ (x : JournalData). length (front_bytes x)) (sym same) ∙ ap length (front_mark i n refl) ∙ length-append (front_bytes i) (record_bytes (mark_items n)) in
    let below = s.below in
    let low : length (front_bytes i) < 2 ^ 30 = omega (arith, size, below) in
    let is = stands_from i (unmarked_whole j s low) refl [] j.records refl s.records (bare_stands j s) in
    let nine = mark_size n in
    let m = s.mark n e in
    let room : HasRoom (length (front_bytes i)) (mark_items n) = record { some = omega (arith, nine); few = omega (arith, nine); below = omega (arith, size, below, length_record (mark_items n)) } in
    subst (λ (x : JournalData). IsFront x (front_bytes x)) same (marked_front i n refl (front_goes i (record i { mark = Some n }) (front_bytes i) (mark_items n) is (mark_joins i n m.0 m.1) refl room))

-- ---- the laws

pub stands : (j : JournalData) → HasSpelling j → IsFront j (front_bytes j)
stands j s = spelled_stands j j.mark refl s

ended_some : (j : JournalData) → HasSpelling j → ended j ≡ Is j
unfolding parts
ended_some j s = go j.records refl
  where
    go : (rs : List (List Part)) → j.records ≡ rs → ended_with rs j ≡ Is j
    go [] e = absurd (let t = s.journal.some in let empty : [] ≡ t.0 ∷ t.1 = ap (flat_map (λ (r : List Part). r)) (sym e) ∙ t.2 in cc)
    go (r ∷ rs) e = refl

pub again : (j : JournalData) (gate : ℕ) (rest : List ℕ) → HasSpelling j → (gate == 1) ≡ false → journal_of (front_bytes j ++ gate ∷ rest) ≡ Is j
again j gate rest s shut = stands j s gate rest ∙ from_closed (record { journal = j; place = length (front_bytes j); bytes = gate ∷ rest }) shut ∙ ended_some j s

pub spelled : (c : List ℕ) (j : JournalData) → IsBytes c → journal_of c ≡ Is j → HasSpelling j × (gate : ℕ) × (rest : List ℕ) × (c ≡ front_bytes j ++ gate ∷ rest) × ((gate == 1) ≡ false)
spelled c j fits e =
    let l = journal_last c j fits e in
    (record { journal = (journal_fits c j e).0; fields = l.fields; records = l.records; mark = l.mark; below = l.below }, l.gate, l.rest, l.bytes, l.shut)

-- ---- what stands before the last gate

-- bytes in front of others, cut at a place
cut_front : (a b front : List ℕ) → front ++ 0 ∷ [] ≡ a ++ b → 1 ≤ length b → (t : List ℕ) × (front ≡ a ++ t) × (t ++ 0 ∷ [] ≡ b)
cut_front a b front e some =
    let size : length (front ++ 0 ∷ []) ≡ length (a ++ b) = ap length e in
    let m = length a in
    let long : m ≤ length front = omega (arith, size, some, length-append front (0 ∷ []), length-append a b) in
    let len : length (take m front) ≡ m = length-take-le m front long in
    let split : take m front ++ (drop m front ++ 0 ∷ []) ≡ a ++ b = sym (append_assoc (take m front) (drop m front) (0 ∷ [])) ∙ ap (λ (t : List ℕ). t ++ 0 ∷ []) (take-append-drop m front) ∙ e in
    let head : take m front ≡ a = sym (take_at (take m front) (drop m front ++ 0 ∷ []) m len) ∙ ap (take m) split ∙ take_at a b m refl in
    let tail : drop m front ++ 0 ∷ [] ≡ b = sym (drop_at (take m front) (drop m front ++ 0 ∷ []) m len) ∙ ap (drop m) split ∙ drop_at a b m refl in
    (drop m front, sym (take-append-drop m front) ∙ ap (λ (t : List ℕ). t ++ drop m front) head, tail)

zero_byte : IsBytes (0 ∷ [])
zero_byte zero = omega arith
zero_byte (suc i) = omega arith

pub one_front : (j : JournalData) (front : List ℕ) → IsBytes front → IsFront j front → ended j ≡ Is j → front ≡ front_bytes j
one_front j front fits is begun =
    let closed : journal_of (front ++ 0 ∷ []) ≡ Is j = is 0 [] ∙ from_closed (record { journal = j; place = length front; bytes = 0 ∷ [] }) refl ∙ begun in
    let s = spelled (front ++ 0 ∷ []) j (bytes_append front (0 ∷ []) fits zero_byte) closed in
    let c = cut_front (front_bytes j) (s.1 ∷ s.2) front s.3 (omega arith) in
    go s.0 s.1 s.4 c.0 c.1 (ap (λ (l : List ℕ). take 1 l) c.2)
  where
    go : HasSpelling j → (gate : ℕ) → (gate == 1) ≡ false → (t : List ℕ) → front ≡ front_bytes j ++ t → take 1 (t ++ 0 ∷ []) ≡ gate ∷ [] → front ≡ front_bytes j
    go s gate shut [] parts_are begins = parts_are ∙ append-nil (front_bytes j)
    go s gate shut (b ∷ t) parts_are begins =
        let b_is : b ≡ gate = ap (λ (l : List ℕ). get_or l 0 0) begins in
        let inside : front ++ 1 ∷ [] ≡ front_bytes j ++ gate ∷ (t ++ 1 ∷ []) = ap (λ (l : List ℕ). l ++ 1 ∷ []) parts_are ∙ append_assoc (front_bytes j) (b ∷ t) (1 ∷ []) ∙ ap (λ (n : ℕ). front_bytes j ++ n ∷ (t ++ 1 ∷ [])) b_is in
        let whole : journal_of (front ++ 1 ∷ []) ≡ Is j = ap journal_of inside ∙ again j gate (t ++ 1 ∷ []) s shut in
        let broken : journal_of (front ++ 1 ∷ []) ≡ Damaged (length front) = is 1 [] ∙ from_damaged (record { journal = j; place = length front; bytes = 1 ∷ [] }) refl (next_lacking j (length front) 1 [] (items_cut (length front) [] (omega arith))) in
        absurd (let both : Damaged (length front) ≡ Is j = sym broken ∙ whole in cc)
