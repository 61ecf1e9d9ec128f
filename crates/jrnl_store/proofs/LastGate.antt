-- Where the last gate stands behind a record.
use Rattle.std.proofs.Common.{◌≡◌, ℕ, ◌+◌, Bool, true, false, cond, refl, sym, ◌∙◌, ap, None, Some, List, [], ◌∷◌, ◌++◌, length, drop, arith, length-append}
use Rattle.std.specs.Int.{w64}
use Rattle.avm_num.specs.Bytes.{number_at}
use Rattle.avm_num.specs.Lists.{list_bytes}
use Rattle.avm_num.specs.Walk.{all_at, is_nil}
use Rattle.avm_num.proofs.Numbers.{bind_some, kept_some}
use Rattle.avm_num.proofs.Lengths.{number_rest, list_push, be64}
use Rattle.journal_model.specs.Part.{Part, part_at}
use Rattle.journal_model.specs.Header.{HeaderData}
use Rattle.journal_model.specs.Journal.{JournalData, entries, has_snap, continues, with_record, with_parts, with_mark, mark_at, begins_mark, joined}
use Rattle.journal_model.specs.Spelling.{header_bytes, parts_bytes, record_bytes, mark_items, mark_bytes, front_bytes}
use Rattle.journal_model.specs.Saving.{last_gate}
use Rattle.jrnl_part.proofs.Sizes.{three, sized_size, parts_size}

abbrev spell : List Part → List ℕ
spell ps = record_bytes (parts_bytes ps)

pub bare_gate : (h : HeaderData) → last_gate (record { header = h; records = []; mark = None }) ≡ length (header_bytes h)
unfolding front_bytes
bare_gate h = omega (arith, three (header_bytes h) [] [])

parts_gate : (j : JournalData) (ps : List Part) → last_gate (with_record j ps) ≡ last_gate j + 5 + length (parts_bytes ps)
unfolding front_bytes record_bytes
parts_gate j ps =
    let old = list_bytes spell j.records in
    let new = list_bytes spell (j.records ++ ps ∷ []) in
    let more : length new ≡ length old + length (spell ps) = ap length (list_push spell j.records ps) ∙ length-append old (spell ps) in
    omega (arith, three (header_bytes j.header) old (mark_bytes j.mark), three (header_bytes j.header) new (mark_bytes j.mark), more, sized_size (parts_bytes ps))

mark_gate : (j : JournalData) (n : ℕ) → j.mark ≡ None → last_gate (record j { mark = Some n }) ≡ last_gate j + 14
unfolding front_bytes record_bytes
mark_gate j n unmarked =
    let all = list_bytes spell j.records in
    let none : length (mark_bytes j.mark) ≡ 0 = ap (λ m. length (mark_bytes m)) unmarked in
    omega (arith, three (header_bytes j.header) all (mark_bytes j.mark), three (header_bytes j.header) all (mark_bytes (Some n)), none, sized_size (mark_items n), be64 n)

mark_size : (bytes : List ℕ) (n : ℕ) → mark_at bytes ≡ Some n → length bytes ≡ 8
unfolding mark_at
mark_size bytes n e =
    let a = bind_some (number_at w64 bytes) _ n e in
    let k = kept_some (is_nil a.0.1) a.0.0 n a.2 in
    omega (arith, number_rest w64 bytes a.0 a.1, empty a.0.1 k.0)
  where
    empty : (l : List ℕ) → is_nil l ≡ true → length l ≡ 0
    empty [] e = refl
    empty (b ∷ l) e = absurd cc

-- the record that these items are takes five bytes more than they
pub joined_gate : (j next : JournalData) (items : List ℕ) → joined j items ≡ Some next → j.mark ≡ None → last_gate next ≡ last_gate j + 5 + length items
unfolding joined with_parts with_mark
joined_gate j next items e unmarked = go items refl (begins_mark items) refl
  where
    by_parts : with_parts j items ≡ Some next → last_gate next ≡ last_gate j + 5 + length items
    by_parts h =
        let a = bind_some (all_at part_at items) _ next h in
        let k = kept_some (continues j a.0) (with_record j a.0) next a.2 in
        ap last_gate (sym k.1) ∙ parts_gate j a.0 ∙ ap (λ (n : ℕ). last_gate j + 5 + n) (parts_size items a.0 a.1)

    by_mark : (l : List ℕ) → items ≡ l → begins_mark l ≡ true → with_mark j (drop 1 items) ≡ Some next → last_gate next ≡ last_gate j + 5 + length items
    by_mark [] is first h = absurd cc
    by_mark (b ∷ l) is first h =
        let a = bind_some (mark_at (drop 1 items)) _ next h in
        let k = kept_some (has_snap a.0 (entries j)) (record j { mark = Some a.0 }) next a.2 in
        let eight = mark_size (drop 1 items) a.0 a.1 in
        let same : length (drop 1 items) ≡ length l = ap (λ (x : List ℕ). length (drop 1 x)) is in
        let all : length items ≡ length (b ∷ l) = ap length is in
        ap last_gate (sym k.1) ∙ mark_gate j a.0 unmarked ∙ omega (arith, eight, same, all)

    go : (l : List ℕ) → items ≡ l → (t : Bool) → begins_mark items ≡ t → last_gate next ≡ last_gate j + 5 + length items
    go l is true t = by_mark l is (ap begins_mark (sym is) ∙ t) (ap (λ (b : Bool). cond b (with_mark j (drop 1 items)) (with_parts j items)) (sym t) ∙ e)
    go l is false t = by_parts (ap (λ (b : Bool). cond b (with_mark j (drop 1 items)) (with_parts j items)) (sym t) ∙ e)
