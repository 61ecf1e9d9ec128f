-- The lines of a journal's items are those of its parts.
use Rattle.std.proofs.Common.{◌≡◌, ℕ, ◌+◌, ◌-◌, ◌<◌, ◌==◌, ◌&&◌, nat_lt, true, List, [], ◌∷◌, ◌++◌, Option, None, refl, ap, sym, ◌∙◌, arith, eqb-true, ltb-true, append_assoc}
use Rattle.std.specs.Prelude.{map}
use Rattle.std.proofs.lemmas.List.{map-append}
use Rattle.avm_num.proofs.Numbers.{and_true}
use Rattle.command_parts.specs.Printing.{line}
use Rattle.journal_model.specs.Fits.{FitsJournal}
use Rattle.journal_model.specs.Header.{CarriedData}
use Rattle.journal_model.specs.Journal.{JournalData, parts, follows, may_stand, snap_of, is_number, pages_ascend, page_count_of}
use Rattle.journal_model.specs.Part.{Part, entry, seal, keep, pages_of}
use Rattle.journal_model.specs.Standing.{StandingData, start, behind}
use Rattle.jrnl_store.specs.Items.{ItemData, items_from, items_in, part_items, carried_items}
use Rattle.list_model.specs.Lines.{entry_line, seal_line, part_lines, mark_lines, journal_lines}
use Rattle.list_command.specs.Listing.{item_lines, items_lines, all_items, all_lines, listing}

lines_from : (first pages n last : ℕ) (snap : Option ℕ) (s : StandingData) (ps : List Part) → follows first pages n snap ps ≡ true → s.next ≡ n → (first < n → last + 1 ≡ n) → items_lines (items_from s ps) ≡ map line (part_lines last ps)
lines_from first pages n last snap s [] e is l = refl
lines_from first pages n last snap s (entry f ∷ ps) e is l =
    let p = and_true (f.seq == n && may_stand first n f.kind) (follows first pages (n + 1) (snap_of f) ps) e in
    let q = and_true (f.seq == n) (may_stand first n f.kind) p.0 in
    let num : f.seq ≡ n = eqb-true _ _ q.0 in
    let next : s.next + 1 ≡ n + 1 = ap (λ (k : ℕ). k + 1) is in
    let same : f.seq + 1 ≡ n + 1 = ap (λ (k : ℕ). k + 1) num in
    ap (λ (ls : List (List ℕ)). line (entry_line f) ∷ ls) (lines_from first pages (n + 1) f.seq (snap_of f) (behind s (entry f)) ps p.1 next (λ lt. same))
lines_from first pages n last snap s (seal ∷ ps) e is l =
    let p = and_true (nat_lt first n) (follows first pages n None ps) e in
    let lt : first < n = ltb-true first n p.0 in
    let was : last + 1 ≡ n = l lt in
    let same : s.next - 1 ≡ last = omega (arith, is, was) in
    ap (λ (m : ℕ). line (seal_line m) ∷ items_lines (items_from (behind s seal) ps)) same
    ∙ ap (λ (ls : List (List ℕ)). line (seal_line last) ∷ ls) (lines_from first pages n last None (behind s seal) ps p.1 is l)
lines_from first pages n last snap s (keep k ∷ ps) e is l =
    let p = and_true (is_number snap k.seq && pages_ascend 0 pages (pages_of k)) (follows first pages n None ps) e in
    lines_from first pages n last None s ps p.1 is l

carried_none : (cs : List CarriedData) (xs : List ItemData) → items_lines (carried_items cs ++ xs) ≡ items_lines xs
carried_none [] xs = refl
carried_none (c ∷ cs) xs = carried_none cs xs

items_are : (j : JournalData) → FitsJournal j → all_items j ≡ map line (part_lines 0 (parts j))
unfolding all_items items_in part_items
items_are j w =
    let h = j.header.first in
    carried_none j.header.carried (items_from (start j.header) (parts j))
    ∙ lines_from h (page_count_of j) h 0 None (start j.header) (parts j) w.whole refl (λ lt. absurd (omega (arith, lt)))

pub lines_are : (j : JournalData) → FitsJournal j → all_lines j ≡ listing j
unfolding listing journal_lines
lines_are j w =
    ap (λ (ls : List (List ℕ)). ls ++ map line (mark_lines j.mark)) (items_are j w)
    ∙ sym (map-append line (part_lines 0 (parts j)) (mark_lines j.mark))

pub lines_append : (a b : List ItemData) → items_lines (a ++ b) ≡ items_lines a ++ items_lines b
lines_append [] b = refl
lines_append (x ∷ a) b = ap (λ (ls : List (List ℕ)). item_lines x ++ ls) (lines_append a b) ∙ sym (append_assoc (item_lines x) (items_lines a) (items_lines b))
