-- The bytes of a journal's header.
use Rattle.std.proofs.Common.{◌≡◌, ℕ, ◌+◌, ◌*◌, ◌^◌, ◌≤◌, Bool, true, false, cond, List, [], ◌∷◌, ◌++◌, length, refl, sym, ap, ◌∙◌, arith}
use Rattle.std.specs.Prelude.{◌==◌}
use Rattle.std.specs.Int.{w32, w64}
use Rattle.std.specs.List.{AllByRecursion}
use Rattle.std.proofs.lemmas.List.{length-append}
use Rattle.std.proofs.Math.Nat.{min-eq_left}
use Rattle.avm_num.specs.Lists.{be, list_bytes, one, sized_bytes}
use Rattle.avm_num.proofs.Lengths.{be32, be64, one1}
use Rattle.avm_model.specs.Frame.{frame_bytes}
use Rattle.carried_laws.proofs.SignedFit.{frame_length}
use Rattle.journal_model.specs.Header.{CarriedData, HeaderData, journal_magic}
use Rattle.journal_model.specs.Journal.{JournalData, count_or_zero}
use Rattle.journal_model.specs.Part.{Part, entry, keep, seal}
use Rattle.journal_model.specs.Spelling.{carried_bytes, carried_part, header_bytes, version}
use Rattle.journal_model.specs.Standing.{Bounds, StandingData, behind, start}
use Rattle.journal_model.specs.Journal.{parts}
use Rattle.journal_spelling.specs.Spelled.{FitsCarried, HasSpelling}
use Rattle.jrnl_store.specs.Items.{ItemData, carried_items, items_from, items_in, part_items}
use Rattle.jrnl_store.specs.Kept.{Kept}
use Rattle.jrnl_store.specs.Own.{AreKept}
use Rattle.rebut_pass.specs.Passing.{Takes}
use Rattle.base_place.specs.Sizes.{Sizes, more_bytes, sized, start_of}
use Rattle.base_place.specs.declared.carriage.Carriage.{Carriage}

-- ---- lengths

sized_length : (x : List ℕ) → length (sized_bytes (be w32) x) ≡ 4 + length x
sized_length x = omega (arith, length-append (be w32 (length x)) x, be32 (length x))

nine : (a b c d e f g h i : List ℕ) → length (a ++ b ++ c ++ d ++ e ++ f ++ g ++ h ++ i) ≡ length a + length b + length c + length d + length e + length f + length g + length h + length i
nine a b c d e f g h i =
    omega (
      arith,
      length-append (a ++ b ++ c ++ d ++ e ++ f ++ g ++ h) i,
      length-append (a ++ b ++ c ++ d ++ e ++ f ++ g) h,
      length-append (a ++ b ++ c ++ d ++ e ++ f) g,
      length-append (a ++ b ++ c ++ d ++ e) f,
      length-append (a ++ b ++ c ++ d) e,
      length-append (a ++ b ++ c) d,
      length-append (a ++ b) c,
      length-append a b,
    )

header_length : (h : HeaderData) → length h.key ≡ 56 → length h.before ≡ 32 → length (header_bytes h) ≡ 113 + length h.head + length h.pages + length (carried_part h)
unfolding header_bytes
header_length h key before =
    omega (arith, nine journal_magic (one (version h)) h.key (be w64 h.first) h.before (be w64 h.leaves) (sized_bytes (be w32) h.head) h.pages (carried_part h), one1 (version h), be64 h.first, be64 h.leaves, sized_length h.head, key, before)

carried_length : (c : CarriedData) → FitsCarried c → length (carried_bytes c) ≡ 57 + length c.frame.content
unfolding carried_bytes
carried_length c fits =
    let before = fits.before in
    omega (arith, length-append (be w64 c.leaf ++ c.before) (sized_bytes (be w32) (frame_bytes c.frame)), length-append (be w64 c.leaf) c.before, be64 c.leaf, sized_length (frame_bytes c.frame), frame_length c.frame, before)

-- ---- all items

sized_all : List ItemData → ℕ → ℕ
sized_all [] size = size
sized_all (x ∷ xs) size = sized_all xs (sized x size)

taken_all : (xs : List ItemData) (a b : Carriage) → Takes Sizes a xs b → b.size ≡ sized_all xs a.size
unfolding sized_all
taken_all [] a b t = ap (λ (c : Carriage). c.size) (sym t)
taken_all (x ∷ xs) a b t = taken_all xs t.0 b t.2 ∙ ap (sized_all xs) t.1

own_none : (s : StandingData) (ps : List Part) (size : ℕ) → sized_all (items_from s ps) size ≡ size
unfolding sized_all
own_none s [] size = refl
own_none s (entry f ∷ ps) size = own_none (behind s (entry f)) ps size
own_none s (seal ∷ ps) size = own_none (behind s seal) ps size
own_none s (keep k ∷ ps) size = own_none (behind s (keep k)) ps size

carried_sum : (cs : List CarriedData) (xs : List ItemData) (size : ℕ) → AllByRecursion FitsCarried cs → size + 40000 * length cs ≤ 2 ^ 32 → sized_all (carried_items cs ++ xs) size ≡ sized_all xs (size + length (list_bytes carried_bytes cs))
unfolding sized_all
carried_sum [] xs size fits le = ap (sized_all xs) (omega arith)
carried_sum (c ∷ cs) xs size fits le =
    let short = fits.0.short in
    let long = frame_length c.frame in
    let one = carried_length c fits.0 in
    let exact : more_bytes size c.frame ≡ size + (57 + length c.frame.content) = min-eq_left (omega (arith, short, long, le)) in
    let both = length-append (carried_bytes c) (list_bytes carried_bytes cs) in
    ap (λ (n : ℕ). sized_all (carried_items cs ++ xs) n) exact
    ∙ carried_sum cs xs (size + (57 + length c.frame.content)) fits.1 (omega (arith, short, long, le))
    ∙ ap (sized_all xs) (omega (arith, one, both))

-- ---- the place

pub start_is : (j : JournalData) (k : Kept) (a b : Carriage) (head first pages place : ℕ) → HasSpelling j → AreKept k j → a.size ≡ 0 → Takes Sizes a (items_in j) b → first ≡ k.bounds.first → pages ≡ k.bounds.pages → head ≡ length j.header.head → place ≡ start_of first head pages b.size
    → place ≡ length (header_bytes j.header)
unfolding items_in part_items
start_is j k a b head first pages place h keeps none t first_is pages_are head_is is =
    let few = h.fields.few in
    let zero : a.size + 40000 * length j.header.carried ≤ 2 ^ 32 = omega (arith, none, few) in
    let size : b.size ≡ a.size + length (list_bytes carried_bytes j.header.carried) =
    taken_all (carried_items j.header.carried ++ items_from (start j.header) (parts j)) a b t ∙ carried_sum j.header.carried (items_from (start j.header) (parts j)) a.size h.fields.carried zero ∙ own_none (start j.header) (parts j) (a.size + length (list_bytes carried_bytes j.header.carried)) in
    let own = h.journal.header.pages in
    let all = header_length j.header h.journal.header.key h.journal.header.before in
    let count : pages ≡ own.0 = pages_are ∙ ap (λ (x : Bounds). x.pages) keeps.bounds ∙ ap count_or_zero own.1 in
    let whole = own.2 in
    let from : first ≡ j.header.first = first_is ∙ ap (λ (x : Bounds). x.first) keeps.bounds in
    is ∙ ap (λ (f : ℕ). start_of f head pages b.size) from ∙ go (j.header.first == 1) refl count whole size all
  where
    go : (c : Bool) → (j.header.first == 1) ≡ c → pages ≡ h.journal.header.pages.0 → length j.header.pages ≡ 4096 * h.journal.header.pages.0 → b.size ≡ a.size + length (list_bytes carried_bytes j.header.carried)
        → length (header_bytes j.header) ≡ 113 + length j.header.head + length j.header.pages + length (carried_part j.header) → 113 + head + 4096 * pages + cond (j.header.first == 1) 0 (1 + b.size) ≡ length (header_bytes j.header)
    go true e count whole size all =
        let part : length (carried_part j.header) ≡ 0 = ap (λ (c : Bool). length (cond c [] (one (length j.header.carried) ++ list_bytes carried_bytes j.header.carried))) e in
        let rest : cond (j.header.first == 1) 0 (1 + b.size) ≡ 0 = ap (λ (c : Bool). cond c 0 (1 + b.size)) e in
        omega (arith, part, rest, count, whole, all, head_is)
    go false e count whole size all =
        let part : length (carried_part j.header) ≡ length (one (length j.header.carried) ++ list_bytes carried_bytes j.header.carried) = ap (λ (c : Bool). length (cond c [] (one (length j.header.carried) ++ list_bytes carried_bytes j.header.carried))) e in
        let both = length-append (one (length j.header.carried)) (list_bytes carried_bytes j.header.carried) in
        let rest : cond (j.header.first == 1) 0 (1 + b.size) ≡ 1 + b.size = ap (λ (c : Bool). cond c 0 (1 + b.size)) e in
        omega (arith, part, both, one1 (length j.header.carried), rest, count, whole, all, head_is, size, none)
