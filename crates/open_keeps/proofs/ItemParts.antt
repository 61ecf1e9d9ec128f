-- The parts among a journal's items are the journal's, and the pages of its keeps are inside its RAM.
use Rattle.std.proofs.Common.{◌≡◌, ℕ, ◌+◌, ◌==◌, ◌&&◌, Bool, true, false, nat_lt, List, [], ◌∷◌, ◌++◌, Option, None, refl, ap, ◌∙◌}
use Rattle.std.specs.List.{AllByRecursion}
use Rattle.avm_num.proofs.Numbers.{and_true}
use Rattle.journal_model.specs.Fits.{FitsJournal}
use Rattle.journal_model.specs.Header.{CarriedData}
use Rattle.journal_model.specs.Journal.{JournalData, follows, is_number, may_stand, page_count_of, pages_ascend, parts, snap_of}
use Rattle.journal_model.specs.Part.{Part, entry, keep, pages_of, seal}
use Rattle.journal_model.specs.Standing.{StandingData, behind, start}
use Rattle.jrnl_store.specs.Items.{ItemData, carried_items, items_from, items_in, part_items}
use Rattle.open_keeps.specs.Search.{IsInside, part_in, parts_of_items}

parts_from : (s : StandingData) (ps : List Part) → parts_of_items (items_from s ps) ≡ ps
parts_from s [] = refl
parts_from s (entry f ∷ ps) = ap (λ (l : List Part). entry f ∷ l) (parts_from (behind s (entry f)) ps)
parts_from s (seal ∷ ps) = ap (λ (l : List Part). seal ∷ l) (parts_from (behind s seal) ps)
parts_from s (keep k ∷ ps) = ap (λ (l : List Part). keep k ∷ l) (parts_from (behind s (keep k)) ps)

parts_carried : (cs : List CarriedData) (xs : List ItemData) → parts_of_items (carried_items cs ++ xs) ≡ parts_of_items xs
parts_carried [] xs = refl
parts_carried (c ∷ cs) xs = parts_carried cs xs

pub parts_are : (j : JournalData) → parts_of_items (items_in j) ≡ parts j
unfolding items_in part_items
parts_are j = parts_carried j.header.carried (items_from (start j.header) (parts j)) ∙ parts_from (start j.header) (parts j)

inside_from : (first pages n : ℕ) (snap : Option ℕ) (s : StandingData) (ps : List Part) → follows first pages n snap ps ≡ true → AllByRecursion (IsInside pages) (items_from s ps)
inside_from first pages n snap s [] e = tt
inside_from first pages n snap s (entry f ∷ ps) e = (tt, inside_from first pages (n + 1) (snap_of f) (behind s (entry f)) ps (and_true (f.seq == n && may_stand first n f.kind) (follows first pages (n + 1) (snap_of f) ps) e).1)
inside_from first pages n snap s (seal ∷ ps) e = (tt, inside_from first pages n None (behind s seal) ps (and_true (nat_lt first n) (follows first pages n None ps) e).1)
inside_from first pages n snap s (keep k ∷ ps) e =
    let p = and_true (is_number snap k.seq && pages_ascend 0 pages (pages_of k)) (follows first pages n None ps) e in
    ((and_true (is_number snap k.seq) (pages_ascend 0 pages (pages_of k)) p.0).1, inside_from first pages n None (behind s (keep k)) ps p.1)

inside_carried : (pages : ℕ) (cs : List CarriedData) (xs : List ItemData) → AllByRecursion (IsInside pages) xs → AllByRecursion (IsInside pages) (carried_items cs ++ xs)
inside_carried pages [] xs h = h
inside_carried pages (c ∷ cs) xs h = (tt, inside_carried pages cs xs h)

pub inside_all : (j : JournalData) → FitsJournal j → AllByRecursion (IsInside (page_count_of j)) (items_in j)
unfolding items_in part_items
inside_all j fits = inside_carried (page_count_of j) j.header.carried (items_from (start j.header) (parts j)) (inside_from j.header.first (page_count_of j) j.header.first None (start j.header) (parts j) fits.whole)
