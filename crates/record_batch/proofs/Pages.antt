-- The pages of a keep: their spelling, their order, and which they are.
use Rattle.std.proofs.Common.{◌≡◌, ℕ, zero, suc, ◌+◌, ◌*◌, ◌^◌, ◌<◌, ◌≤◌, Bool, true, false, cond, List, [], ◌∷◌, ◌++◌, length, drop, get_or, refl, sym, ap, subst, ◌∙◌, append_assoc, append-nil, length-append, drop-cons, arith, le-leb, lt-ltb}
use Rattle.std.specs.List.{AllByRecursion, count_by}
use Rattle.std.specs.Int.{w32, w64}
use Rattle.std.proofs.lemmas.List.{length-drop, length-take}
use Rattle.std.proofs.lemmas.List.Sums.{count_by-le-length, sum_by-cons}
use Rattle.avm_num.specs.Lists.{be, list_bytes, one, sized_bytes}
use Rattle.avm_num.specs.Room.{Buffer, with_bytes}
use Rattle.avm_num.specs.Walk.{items_of}
use Rattle.avm_num.proofs.Fields.{Reads, start, next, goes, reads_32, reads_piece}
use Rattle.avm_num.proofs.Lengths.{be32, be64}
use Rattle.avm_num.proofs.Numbers.{Front}
use Rattle.avm_num.proofs.Walks.{items_go}
use Rattle.avm_model.specs.Memory.{IsRam}
use Rattle.avm_model.specs.Pages.{page_of}
use Rattle.journal_model.specs.Journal.{pages_ascend}
use Rattle.journal_model.specs.Part.{KeepData, PageData, keep, longest_head, page_at, pages_of}
use Rattle.journal_model.specs.Spelling.{keep_bytes, part_bytes}
use Rattle.record_batch.specs.Keeping.{AreMarks, keep_of, marked_from, page_bytes}
use Rattle.record_batch.specs.Spelled.{FitsKeep}
use Rattle.record_batch.proofs.PartLaws.{page_shortens}

-- ---- one by one

abbrev page_here : Bool → ℕ → List ℕ → List PageData
page_here true i ram = record { number = i; bytes = page_of ram i } ∷ []
page_here false i ram = []

from_here : (b : Bool) (i : ℕ) (marks : List Bool) (ram : List ℕ) → marked_from i (b ∷ marks) ram ≡ page_here b i ram ++ marked_from (i + 1) marks ram
from_here true i marks ram = refl
from_here false i marks ram = refl

pub marked_next : (i : ℕ) (marks : List Bool) (ram : List ℕ) → i < length marks → marked_from i (drop i marks) ram ≡ page_here (get_or marks i false) i ram ++ marked_from (i + 1) (drop (i + 1) marks) ram
marked_next i marks ram lt =
    let one : i + 1 ≡ suc i = omega arith in
    let e : drop i marks ≡ get_or marks i false ∷ drop (i + 1) marks = drop-cons marks i false lt ∙ ap (λ (k : ℕ). get_or marks i false ∷ drop k marks) (sym one) in
    ap (λ (ms : List Bool). marked_from i ms ram) e ∙ from_here (get_or marks i false) i (drop (i + 1) marks) ram

pub spells_marked : (b c : Buffer) (i : ℕ) (marks : List Bool) (ram : List ℕ) → i < length marks → get_or marks i false ≡ true → c ≡ with_bytes b (page_bytes (record { number = i; bytes = page_of ram i }))
    → with_bytes c (list_bytes page_bytes (marked_from (i + 1) (drop (i + 1) marks) ram)) ≡ with_bytes b (list_bytes page_bytes (marked_from i (drop i marks) ram))
spells_marked b c i marks ram lt m e =
    let n : marked_from i (drop i marks) ram ≡ record { number = i; bytes = page_of ram i } ∷ marked_from (i + 1) (drop (i + 1) marks) ram = marked_next i marks ram lt ∙ rw m refl in
    let more : List ℕ = list_bytes page_bytes (marked_from (i + 1) (drop (i + 1) marks) ram) in
    ap (λ (x : Buffer). with_bytes x more) e
    ∙ ap (λ (x : List ℕ). record b { bytes = x }) (append_assoc b.bytes (page_bytes (record { number = i; bytes = page_of ram i })) more)
    ∙ ap (λ (ps : List PageData). with_bytes b (list_bytes page_bytes ps)) (sym n)

pub spells_unmarked : (b : Buffer) (i : ℕ) (marks : List Bool) (ram : List ℕ) → i < length marks → get_or marks i false ≡ false
    → with_bytes b (list_bytes page_bytes (marked_from (i + 1) (drop (i + 1) marks) ram)) ≡ with_bytes b (list_bytes page_bytes (marked_from i (drop i marks) ram))
spells_unmarked b i marks ram lt m =
    let n : marked_from i (drop i marks) ram ≡ marked_from (i + 1) (drop (i + 1) marks) ram = marked_next i marks ram lt ∙ rw m refl in
    ap (λ (ps : List PageData). with_bytes b (list_bytes page_bytes ps)) (sym n)

pub none_left : (b : Buffer) (i : ℕ) (marks : List Bool) (ram : List ℕ) → length marks ≤ i → with_bytes b (list_bytes page_bytes (marked_from i (drop i marks) ram)) ≡ b
none_left b i marks ram le = rw (past i marks le) (ap (λ (x : List ℕ). record b { bytes = x }) (append-nil b.bytes))
  where
    past : (i : ℕ) (marks : List Bool) → length marks ≤ i → drop i marks ≡ []
    past zero [] le = refl
    past (suc i) [] le = refl
    past zero (m ∷ marks) le = absurd (omega arith)
    past (suc i) (m ∷ marks) le = past i marks (omega arith)

pub marked_count : (i : ℕ) (marks : List Bool) (ram : List ℕ) → length (marked_from i marks ram) ≡ count_by (λ b. b) marks
marked_count i [] ram = refl
marked_count i (true ∷ marks) ram =
    let ih = marked_count (i + 1) marks ram in
    let step : count_by (λ b. b) (true ∷ marks) ≡ 1 + count_by (λ b. b) marks = sum_by-cons (λ (b : Bool). cond b 1 0) true marks in
    omega (arith, ih, step)
marked_count i (false ∷ marks) ram =
    let ih = marked_count (i + 1) marks ram in
    let step : count_by (λ b. b) (false ∷ marks) ≡ 0 + count_by (λ b. b) marks = sum_by-cons (λ (b : Bool). cond b 1 0) false marks in
    omega (arith, ih, step)

-- ---- what is read back

abbrev FitsPage : PageData → Type 0
FitsPage p = (p.number < 2 ^ 32) × (length p.bytes ≡ 4096)

reads_page : Reads page_at page_bytes FitsPage
unfolding page_at
reads_page = record {
  front = λ bytes p fits e.
      let a = next reads_32 bytes [] bytes (start bytes fits) _ p e in
      let b = next (reads_piece 4096) bytes _ _ a.1 _ p a.3 in
      let same : (record { number = a.0.0; bytes = b.0.0 }, b.0.1) ≡ p = cc in
      subst (λ (q : PageData × List ℕ). Front bytes (page_bytes q.0) q.1 × FitsPage q.0) same (b.1, (a.2, b.2));
  again = λ p rest fits.
      ap page_at (append_assoc (be w32 p.number) p.bytes rest) ∙ goes reads_32 p.number _ _ fits.0 ∙ goes (reads_piece 4096) p.bytes _ _ fits.1;
}

page_long : (ram : List ℕ) (i : ℕ) → 4096 * i + 4096 ≤ length ram → length (page_of ram i) ≡ 4096
page_long ram i le = grind (arith, length-take, length-drop)

marked_fit : (i : ℕ) (marks : List Bool) (ram : List ℕ) → 4096 * (i + length marks) ≤ length ram → i + length marks ≤ 4096 → AllByRecursion FitsPage (marked_from i marks ram)
marked_fit i [] ram le few = tt
marked_fit i (true ∷ marks) ram le few = ((omega arith, page_long ram i (omega arith)), marked_fit (i + 1) marks ram (omega arith) (omega arith))
marked_fit i (false ∷ marks) ram le few = marked_fit (i + 1) marks ram (omega arith) (omega arith)

pages_back : (ps : List PageData) → AllByRecursion FitsPage ps → items_of page_at (list_bytes page_bytes ps) ≡ ps
unfolding page_at
pages_back ps all =
    ap (items_of page_at) (sym (append-nil (list_bytes page_bytes ps))) ∙ items_go page_at page_bytes FitsPage reads_page page_shortens ps [] all
    ∙ ap (λ (qs : List PageData). ps ++ qs) (Rattle.avm_num.proofs.Walks.items_none page_at page_shortens [] refl) ∙ append-nil ps

list_long : (ps : List PageData) → AllByRecursion FitsPage ps → length (list_bytes page_bytes ps) ≡ 4100 * length ps
list_long [] all = refl
list_long (p ∷ ps) all = omega (arith, list_long ps all.1, all.0.1, be32 p.number, length-append (be w32 p.number) p.bytes, length-append (page_bytes p) (list_bytes page_bytes ps))

pub pages_are : (seq : ℕ) (head : List ℕ) (marks : List Bool) (ram : List ℕ) → AreMarks marks ram → pages_of (keep_of seq head marks ram) ≡ marked_from 0 marks ram
pages_are seq head marks ram m = pages_back (marked_from 0 marks ram) (marked_fit 0 marks ram (let s = m.size in omega (arith, s)) (let f = m.few in omega (arith, f)))

pub keep_fits : (seq : ℕ) (head : List ℕ) (marks : List Bool) (ram : List ℕ) → AreMarks marks ram → seq < 2 ^ 64 → length head ≤ longest_head → FitsKeep (keep_of seq head marks ram)
keep_fits seq head marks ram m lt short =
    let is = ap length (pages_are seq head marks ram m) in
    let count = marked_count 0 marks ram in
    let few : count_by (λ b. b) marks ≤ length marks = count_by-le-length (λ b. b) marks in
    let most = m.few in
    let long = list_long (marked_from 0 marks ram) (marked_fit 0 marks ram (let s = m.size in omega (arith, s)) (let f = m.few in omega (arith, f))) in
    record { seq = lt; head = short; few = omega (arith, is, count, few, most); pages = long ∙ ap (λ (n : ℕ). 4100 * n) (sym is) }

pub keep_long : (seq : ℕ) (head : List ℕ) (marks : List Bool) (ram : List ℕ) → AreMarks marks ram → length (part_bytes (keep (keep_of seq head marks ram))) ≤ 17 + length head + 4100 * length marks
unfolding part_bytes keep_bytes
keep_long seq head marks ram m =
    let k : KeepData = keep_of seq head marks ram in
    let count = marked_count 0 marks ram in
    let few : count_by (λ b. b) marks ≤ length marks = count_by-le-length (λ b. b) marks in
    let long = list_long (marked_from 0 marks ram) (marked_fit 0 marks ram (let s = m.size in omega (arith, s)) (let f = m.few in omega (arith, f))) in
    omega (arith, long, count, few, length-append (be w64 seq ++ sized_bytes (be w32) head ++ be w32 (length (pages_of k))) k.pages, length-append (be w64 seq ++ sized_bytes (be w32) head) (be w32 (length (pages_of k))), length-append (be w64 seq) (sized_bytes (be w32) head), length-append (be w32 (length head)) head, be64 seq, be32 (length head), be32 (length (pages_of k)))

-- what was written
pub keep_spells : (b : Buffer) (seq : ℕ) (head : List ℕ) (marks : List Bool) (ram : List ℕ) (n : ℕ) → AreMarks marks ram → n ≡ count_by (λ b. b) marks
    → with_bytes (with_bytes (with_bytes (with_bytes (with_bytes (with_bytes b (one 3)) (be w64 seq)) (be w32 (length head))) head) (be w32 n)) (list_bytes page_bytes (marked_from 0 marks ram)) ≡ with_bytes b (part_bytes (keep (keep_of seq head marks ram)))
unfolding part_bytes keep_bytes one
keep_spells b seq head marks ram n m e =
    let pages : List ℕ = list_bytes page_bytes (marked_from 0 marks ram) in
    let count : n ≡ length (pages_of (keep_of seq head marks ram)) = e ∙ sym (marked_count 0 marks ram) ∙ sym (ap length (pages_are seq head marks ram m)) in
    let all : (((((b.bytes ++ (3 ∷ [])) ++ be w64 seq) ++ be w32 (length head)) ++ head) ++ be w32 n) ++ pages ≡ b.bytes ++ (3 ∷ (be w64 seq ++ (be w32 (length head) ++ head) ++ be w32 n ++ pages)) = simp append_assoc in
    ap (λ (x : List ℕ). record b { bytes = x }) (all ∙ ap (λ (k : ℕ). b.bytes ++ (3 ∷ (be w64 seq ++ (be w32 (length head) ++ head) ++ be w32 k ++ pages))) count)

-- ---- their order, and which they are

ascends_from : (i low most : ℕ) (marks : List Bool) (ram : List ℕ) → low ≤ i → i + length marks ≤ most → pages_ascend low most (marked_from i marks ram) ≡ true
ascends_from i low most [] ram le few = refl
ascends_from i low most (true ∷ marks) ram le few = rw (le-leb low i le, lt-ltb i most (omega arith)) (ascends_from (i + 1) (i + 1) most marks ram (omega arith) (omega arith))
ascends_from i low most (false ∷ marks) ram le few = ascends_from (i + 1) low most marks ram (omega arith) (omega arith)

pub keep_ascends : (seq : ℕ) (head : List ℕ) (marks : List Bool) (ram : List ℕ) → AreMarks marks ram → pages_ascend 0 (length marks) (pages_of (keep_of seq head marks ram)) ≡ true
keep_ascends seq head marks ram m = rw (pages_are seq head marks ram m) (ascends_from 0 0 (length marks) marks ram (omega arith) (omega arith))

-- the sizes of a RAM
pub marks_of : (marks dirty : List Bool) (ram : List ℕ) → length marks ≡ length dirty → length dirty ≤ 4096 → IsRam ram dirty → AreMarks marks ram
marks_of marks dirty ram e few is = record { size = is.size ∙ ap (λ (n : ℕ). 4096 * n) (sym e); few = omega (arith, e, few) }
