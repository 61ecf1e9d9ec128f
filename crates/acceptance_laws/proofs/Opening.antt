-- That the entries of a range begin and go on as a segment's.
use Rattle.std.proofs.Common.{◌≡◌, ◌⊎◌, inl, inr, ℕ, ◌+◌, ◌^◌, ◌<◌, ◌≤◌, Bool, true, false, cond, not, nat_eq, nat_lt, nat_le, ◌&&◌, ◌||◌, List, [], ◌∷◌, ◌++◌, length, Option, None, refl, sym, ap, subst, ◌∙◌, arith, eqb-true, eq-eqb, ne_eqb, ltb-true}
use Rattle.avm_num.proofs.Numbers.{and_true}
use Rattle.avm_model.specs.Entries.{all_zero, begins, no_boot, numbered, opens, snaps}
use Rattle.avm_model.specs.Frame.{FrameData}
use Rattle.honest_model.specs.Keeps.{up_to}
use Rattle.journal_model.specs.Fits.{FitsJournal}
use Rattle.journal_model.specs.Header.{HeaderData, has_early_count, is_base, is_first}
use Rattle.journal_model.specs.Journal.{JournalData, entries, follows, is_number, may_stand, page_count_of, pages_ascend, snap_of}
use Rattle.journal_model.specs.Part.{Part, entry, frames_in, keep, pages_of, seal}
use Rattle.journal_model.proofs.Fitting.{entries_numbered, first_entry}
use Rattle.rebut_model.specs.Texts.{from_number}
use Rattle.rebut_model.proofs.Stretches.{number_behind}
use Rattle.export_laws.proofs.Lists.{numbered_behind}
use Rattle.acceptance_laws.proofs.Ranges.{numbered_front, up_to_front}

-- ---- no entry behind the first is BOOT

stands_no_boot : (first n kind : ℕ) → first < n → may_stand first n kind ≡ true → not (nat_eq kind 1) ≡ true
stands_no_boot first n kind lt e = rw (ne_eqb n first (λ (s : n ≡ first). omega (arith, lt, s))) at e

no_boot_in : (first pages n : ℕ) (snap : Option ℕ) (ps : List Part) → first < n → follows first pages n snap ps ≡ true → no_boot (frames_in ps) ≡ true
no_boot_in first pages n snap [] lt e = refl
no_boot_in first pages n snap (entry f ∷ ps) lt e =
    let p = and_true (nat_eq f.seq n && may_stand first n f.kind) (follows first pages (n + 1) (snap_of f) ps) e in
    let q = and_true (nat_eq f.seq n) (may_stand first n f.kind) p.0 in
    rw (stands_no_boot first n f.kind lt q.1, no_boot_in first pages (n + 1) (snap_of f) ps (omega (arith, lt)) p.1) refl
no_boot_in first pages n snap (seal ∷ ps) lt e = no_boot_in first pages n None ps lt (and_true (nat_lt first n) (follows first pages n None ps) e).1
no_boot_in first pages n snap (keep k ∷ ps) lt e = no_boot_in first pages n None ps lt (and_true (is_number snap k.seq && pages_ascend 0 pages (pages_of k)) (follows first pages n None ps) e).1

no_boot_back : (a b : List FrameData) → no_boot (a ++ b) ≡ true → no_boot b ≡ true
no_boot_back [] b e = e
no_boot_back (f ∷ a) b e = no_boot_back a b (and_true (not (nat_eq f.kind 1)) (no_boot (a ++ b)) e).1

no_boot_front : (a b : List FrameData) → no_boot (a ++ b) ≡ true → no_boot a ≡ true
no_boot_front [] b e = refl
no_boot_front (f ∷ a) b e = let p = and_true (not (nat_eq f.kind 1)) (no_boot (a ++ b)) e in rw (p.0, no_boot_front a b p.1) refl

-- ---- the first entry

record First (j : JournalData) : Type 0 where
  frame : FrameData
  rest : List FrameData
  is : entries j ≡ frame ∷ rest
  number : frame.seq ≡ j.header.first
  stands : cond (nat_eq j.header.first 1) (nat_eq frame.kind 1) (nat_eq frame.kind 2) ≡ true
  later : no_boot rest ≡ true

first_is : (j : JournalData) → FitsJournal j → First j
unfolding entries
first_is j w =
    let o = first_entry j w in
    let first = j.header.first in
    let whole : follows first (page_count_of j) first None (entry o.0 ∷ o.1) ≡ true = subst (λ (ps : List Part). follows first (page_count_of j) first None ps ≡ true) o.2 w.whole in
    let p = and_true (nat_eq o.0.seq first && may_stand first first o.0.kind) (follows first (page_count_of j) (first + 1) (snap_of o.0) o.1) whole in
    let q = and_true (nat_eq o.0.seq first) (may_stand first first o.0.kind) p.0 in
    record {
      frame = o.0;
      rest = frames_in o.1;
      is = ap frames_in o.2;
      number = eqb-true o.0.seq first q.0;
      stands = rw (eq-eqb first first refl) at q.1;
      later = no_boot_in first (page_count_of j) (first + 1) (snap_of o.0) o.1 (omega arith) p.1;
    }

-- ---- the version

-- a journal's first number is at least 1; where it is 1, the hash before it is zero bytes
record Numbers (h : HeaderData) : Type 0 where
  least : 1 ≤ h.first
  zero_hash : h.first ≡ 1 → all_zero h.before ≡ true

three : (a b c : Bool) → (a && b && c) ≡ true → (a ≡ true) × (b ≡ true)
three true true c h = (refl, refl)
three true false c h = absurd cc
three false b c h = absurd cc

numbers : (h : HeaderData) → (is_first h ≡ true) ⊎ (is_base h ≡ true) → Numbers h
numbers h (inl e) =
    let p = three (nat_eq h.first 1) (all_zero h.before) (nat_eq h.leaves 0) e in
    let one : h.first ≡ 1 = eqb-true h.first 1 p.0 in
    record { least = omega (arith, one); zero_hash = λ is. p.1 }
numbers h (inr e) =
    let p = three (nat_lt 1 h.first) (nat_lt h.first (2 ^ 61)) (has_early_count h.head) e in
    let more : 1 < h.first = ltb-true 1 h.first p.0 in
    record { least = omega (arith, more); zero_hash = λ is. absurd (omega (arith, more, is)) }

-- ---- how a range begins

-- the second of both, where it isn't the first
other : (a b : Bool) → (a || b) ≡ true → not a ≡ true → b ≡ true
other true b e n = absurd cc
other false b e n = e

begins_at_first : (h : List ℕ) (n kind : ℕ) → (n ≡ 1 → all_zero h ≡ true) → cond (nat_eq n 1) (nat_eq kind 1) (nat_eq kind 2) ≡ true → begins n h kind ≡ true
begins_at_first h n kind zero e = go (nat_eq n 1) refl e
  where
    go : (b : Bool) → nat_eq n 1 ≡ b → cond b (nat_eq kind 1) (nat_eq kind 2) ≡ true → cond b (nat_eq kind 1 && all_zero h) (nat_eq kind 2) ≡ true
    go true i q = rw (q, zero (eqb-true n 1 i)) refl
    go false i q = q

begins_later : (h : List ℕ) (n kind : ℕ) → 1 < n → nat_eq kind 2 ≡ true → begins n h kind ≡ true
begins_later h n kind lt e = rw (ne_eqb n 1 (λ (s : n ≡ 1). omega (arith, lt, s))) e

-- the entry of number `from`, and those behind it
pub record Begun (j : JournalData) (from : ℕ) (f : FrameData) (later : List FrameData) : Type 0 where
  pub begins_well : begins from (from_number from j.header.before (entries j)).before f.kind ≡ true
  pub later_no_boot : no_boot later ≡ true

pub begun : (j : JournalData) (from : ℕ) (before later : List FrameData) (f : FrameData) → FitsJournal j → entries j ≡ before ++ f ∷ later → f.seq ≡ from → (nat_eq f.kind 1 || nat_eq f.kind 2) ≡ true → Begun j from f later
begun j from [] later f w split number kind =
    let one = first_is j w in
    let v = numbers j.header w.header.version in
    let both : f ∷ later ≡ one.frame ∷ one.rest = sym split ∙ one.is in
    let same : f ≡ one.frame = cc in
    let rest : later ≡ one.rest = cc in
    let first : from ≡ j.header.first = sym number ∙ ap (λ (x : FrameData). x.seq) same ∙ one.number in
    let hash : (from_number from j.header.before (entries j)).before ≡ j.header.before = ap (λ (l : List FrameData). (from_number from j.header.before l).before) split ∙ rw (eq-eqb f.seq from number) refl in
    let begins_first : begins j.header.first j.header.before one.frame.kind ≡ true = begins_at_first j.header.before j.header.first one.frame.kind v.zero_hash one.stands in
    let moved : begins from j.header.before f.kind ≡ true = subst (λ (n : ℕ). begins n j.header.before f.kind ≡ true) (sym first) (subst (λ (x : FrameData). begins j.header.first j.header.before x.kind ≡ true) (sym same) begins_first) in
    record { begins_well = subst (λ (h : List ℕ). begins from h f.kind ≡ true) (sym hash) moved; later_no_boot = subst (λ (l : List FrameData). no_boot l ≡ true) (sym rest) one.later }
begun j from (g ∷ before) later f w split number kind =
    let one = first_is j w in
    let v = numbers j.header w.header.version in
    let both : g ∷ (before ++ f ∷ later) ≡ one.frame ∷ one.rest = sym split ∙ one.is in
    let rest : before ++ f ∷ later ≡ one.rest = cc in
    let none : no_boot (f ∷ later) ≡ true = no_boot_back before (f ∷ later) (subst (λ (l : List FrameData). no_boot l ≡ true) (sym rest) one.later) in
    let p = and_true (not (nat_eq f.kind 1)) (no_boot later) none in
    let num : numbered j.header.first ((g ∷ before) ++ f ∷ later) ≡ true = subst (λ (l : List FrameData). numbered j.header.first l ≡ true) split (entries_numbered j w) in
    let far : f.seq ≡ j.header.first + length (g ∷ before) = number_behind j.header.first (g ∷ before) f later num in
    let least = v.least in
    record { begins_well = begins_later (from_number from j.header.before (entries j)).before from f.kind (omega (arith, far, number, least)) (other (nat_eq f.kind 1) (nat_eq f.kind 2) kind p.0); later_no_boot = p.1 }

-- ---- the whole range

pub opened : (j : JournalData) (from to : ℕ) (before later : List FrameData) (f : FrameData) → FitsJournal j → entries j ≡ before ++ f ∷ later → f.seq ≡ from → (nat_eq f.kind 1 || nat_eq f.kind 2) ≡ true
    → nat_le (snaps (f ∷ up_to to later)) 64 ≡ true → opens from (from_number from j.header.before (entries j)).before (f ∷ up_to to later) ≡ true
opened j from to before later f w split number kind few =
    let b = begun j from before later f w split number kind in
    let front = up_to_front to later in
    let none : no_boot (up_to to later) ≡ true = no_boot_front (up_to to later) front.rest (subst (λ (l : List FrameData). no_boot l ≡ true) front.is b.later_no_boot) in
    let num : numbered (j.header.first + length before) (f ∷ later) ≡ true = numbered_behind before (f ∷ later) j.header.first (subst (λ (l : List FrameData). numbered j.header.first l ≡ true) split (entries_numbered j w)) in
    let p = and_true (nat_eq f.seq (j.header.first + length before)) (numbered (j.header.first + length before + 1) later) num in
    let own : f.seq ≡ j.header.first + length before = eqb-true _ _ p.0 in
    let next : j.header.first + length before + 1 ≡ from + 1 = omega (arith, own, number) in
    let rest : numbered (from + 1) (up_to to later) ≡ true = numbered_front (from + 1) (up_to to later) front.rest (subst (λ (l : List FrameData). numbered (from + 1) l ≡ true) front.is (subst (λ (n : ℕ). numbered n later ≡ true) next p.1)) in
    rw (eq-eqb f.seq from number, b.begins_well, rest, none, few) refl
