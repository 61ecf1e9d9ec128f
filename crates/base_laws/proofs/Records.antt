-- The parts and the records of a moved journal.
use Rattle.std.proofs.Common.{◌≡◌, ℕ, ◌+◌, ◌≤◌, ◌<◌, ◌==◌, Bool, true, false, cond, ◌&&◌, nat_lt, not, List, [], ◌∷◌, ◌++◌, length, Option, Some, None, refl, sym, ap, subst, ◌∙◌, arith, length-append, eqb-true, eq-eqb, ne_eqb, lt-ltb}
use Rattle.std.proofs.lemmas.Bool.{and_from}
use Rattle.std.specs.List.{AllByRecursion}
use Rattle.avm_num.proofs.Numbers.{and_true}
use Rattle.avm_model.specs.Frame.{FrameData}
use Rattle.avm_model.specs.Entries.{numbered}
use Rattle.journal_model.specs.Part.{Part, entry, seal, keep, frames_in, pages_of}
use Rattle.journal_model.specs.Journal.{has_snap, follows, may_stand, snap_of, is_number, pages_ascend}
use Rattle.journal_model.specs.Spelling.{part_bytes, parts_bytes}
use Rattle.journal_spelling.specs.Spelled.{Begins, FitsPart, FitsRecord}
use Rattle.base_model.specs.Base.{from_entry, past_keep, without_keep, records_from}
use Rattle.base_model.proofs.Moves.{all_parts}

-- ---- the entry

pub record IsAt (n : ℕ) (ps : List Part) : Type 0 where
  pub before : List Part
  pub frame : FrameData
  pub behind : List Part
  pub split : ps ≡ before ++ entry frame ∷ behind
  pub seq : frame.seq ≡ n
  pub kind : (frame.kind == 2) ≡ true

with_front : (n : ℕ) (p : Part) (ps : List Part) → IsAt n ps → IsAt n (p ∷ ps)
with_front n p ps i = record { before = p ∷ i.before; frame = i.frame; behind = i.behind; split = ap (λ (l : List Part). p ∷ l) i.split; seq = i.seq; kind = i.kind }

pub snap_at : (n : ℕ) (ps : List Part) → has_snap n (frames_in ps) ≡ true → IsAt n ps
snap_at n [] e = absurd cc
snap_at n (seal ∷ ps) e = with_front n seal ps (snap_at n ps e)
snap_at n (keep k ∷ ps) e = with_front n (keep k) ps (snap_at n ps e)
snap_at n (entry f ∷ ps) e = go (λ q. snap_at n ps q) (f.seq == n) refl e
  where
    go : (has_snap n (frames_in ps) ≡ true → IsAt n ps) → (b : Bool) → (f.seq == n) ≡ b → cond b (f.kind == 2) (has_snap n (frames_in ps)) ≡ true → IsAt n (entry f ∷ ps)
    go more true is q = record { before = []; frame = f; behind = ps; split = refl; seq = eqb-true f.seq n is; kind = q }
    go more false is q = with_front n (entry f) ps (more q)

-- ---- the parts from the entry on

from_none : (n : ℕ) (ps qs : List Part) → from_entry n ps ≡ None → from_entry n (ps ++ qs) ≡ from_entry n qs
from_none n [] qs e = refl
from_none n (seal ∷ ps) qs e = from_none n ps qs e
from_none n (keep k ∷ ps) qs e = from_none n ps qs e
from_none n (entry f ∷ ps) qs e = go (λ q. from_none n ps qs q) (f.seq == n) e
  where
    go : (from_entry n ps ≡ None → from_entry n (ps ++ qs) ≡ from_entry n qs) → (b : Bool) → cond b (Some (entry f ∷ ps)) (from_entry n ps) ≡ None → cond b (Some (entry f ∷ (ps ++ qs))) (from_entry n (ps ++ qs)) ≡ from_entry n qs
    go more true q = absurd cc
    go more false q = more q

from_some : (n : ℕ) (ps qs xs : List Part) → from_entry n ps ≡ Some xs → from_entry n (ps ++ qs) ≡ Some (xs ++ qs)
from_some n [] qs xs e = absurd cc
from_some n (seal ∷ ps) qs xs e = from_some n ps qs xs e
from_some n (keep k ∷ ps) qs xs e = from_some n ps qs xs e
from_some n (entry f ∷ ps) qs xs e = go (λ q. from_some n ps qs xs q) (f.seq == n) e
  where
    go : (from_entry n ps ≡ Some xs → from_entry n (ps ++ qs) ≡ Some (xs ++ qs)) → (b : Bool) → cond b (Some (entry f ∷ ps)) (from_entry n ps) ≡ Some xs → cond b (Some (entry f ∷ (ps ++ qs))) (from_entry n (ps ++ qs)) ≡ Some (xs ++ qs)
    go more true q = let same : entry f ∷ ps ≡ xs = cc in ap (λ (l : List Part). Some (l ++ qs)) same
    go more false q = more q

-- of numbered entries the one of number n is found
pub from_is : (n k : ℕ) (before behind : List Part) (f : FrameData) → numbered k (frames_in (before ++ entry f ∷ behind)) ≡ true → f.seq ≡ n → (from_entry n (before ++ entry f ∷ behind) ≡ Some (entry f ∷ behind)) × (n ≡ k + length (frames_in before))
from_is n k [] behind f num is =
    let p = and_true (f.seq == k) _ num in
    let here : f.seq ≡ k = eqb-true f.seq k p.0 in
    (rw (eq-eqb f.seq n is) refl, omega (arith, here, is))
from_is n k (seal ∷ before) behind f num is = from_is n k before behind f num is
from_is n k (keep q ∷ before) behind f num is = from_is n k before behind f num is
from_is n k (entry g ∷ before) behind f num is =
    let p = and_true (g.seq == k) (numbered (k + 1) (frames_in (before ++ entry f ∷ behind))) num in
    let here : g.seq ≡ k = eqb-true g.seq k p.0 in
    let i = from_is n (k + 1) before behind f p.1 is in
    let count = i.1 in
    (rw (ne_eqb g.seq n (λ (q : g.seq ≡ n). omega (arith, q, here, count))) i.0, omega (arith, count))

-- ---- the records

past_begins : (ps qs : List Part) → Begins ps → past_keep (ps ++ qs) ≡ ps ++ qs
past_begins [] qs h = absurd h
past_begins (entry f ∷ ps) qs h = refl
past_begins (seal ∷ ps) qs h = refl
past_begins (keep k ∷ ps) qs h = absurd h

no_keep : (rs : List (List Part)) → AllByRecursion FitsRecord rs → past_keep (all_parts rs) ≡ all_parts rs
no_keep [] all = refl
no_keep (r ∷ rs) all = past_begins r (all_parts rs) all.0.begins

past_append : (p : Part) (ps qs : List Part) → past_keep ((p ∷ ps) ++ qs) ≡ past_keep (p ∷ ps) ++ qs
past_append (entry f) ps qs = refl
past_append seal ps qs = refl
past_append (keep k) ps qs = refl

without_append : (p : Part) (ps qs : List Part) → past_keep qs ≡ qs → without_keep ((p ∷ ps) ++ qs) ≡ without_keep (p ∷ ps) ++ qs
without_append p [] qs e = ap (λ (l : List Part). p ∷ l) e
without_append p (q ∷ ps) qs e = ap (λ (l : List Part). p ∷ l) (past_append q ps qs)

abbrev pub or_none : Option (List Part) → List Part
or_none None = []
or_none (Some ps) = ps

-- the entry stands in front
found_front : (n : ℕ) (ps xs : List Part) → from_entry n ps ≡ Some xs → (f : FrameData) × (qs : List Part) × (xs ≡ entry f ∷ qs)
found_front n [] xs e = absurd cc
found_front n (seal ∷ ps) xs e = found_front n ps xs e
found_front n (keep k ∷ ps) xs e = found_front n ps xs e
found_front n (entry f ∷ ps) xs e = go (λ q. found_front n ps xs q) (f.seq == n) e
  where
    go : (from_entry n ps ≡ Some xs → (g : FrameData) × (qs : List Part) × (xs ≡ entry g ∷ qs)) → (b : Bool) → cond b (Some (entry f ∷ ps)) (from_entry n ps) ≡ Some xs → (g : FrameData) × (qs : List Part) × (xs ≡ entry g ∷ qs)
    go more true q = let same : entry f ∷ ps ≡ xs = cc in (f, ps, sym same)
    go more false q = more q

pub records_parts : (n : ℕ) (rs : List (List Part)) → AllByRecursion FitsRecord rs → all_parts (records_from n rs) ≡ without_keep (or_none (from_entry n (all_parts rs)))
records_parts n [] all = refl
records_parts n (r ∷ rs) all = go (records_parts n rs all.1) (from_entry n r) refl
  where
    go : all_parts (records_from n rs) ≡ without_keep (or_none (from_entry n (all_parts rs))) → (o : Option (List Part)) → from_entry n r ≡ o → all_parts (records_from n (r ∷ rs)) ≡ without_keep (or_none (from_entry n (r ++ all_parts rs)))
    go more None e = rw (e, from_none n r (all_parts rs) e) more
    go more (Some ps) e =
        let front = found_front n r ps e in
        let apart : without_keep (ps ++ all_parts rs) ≡ without_keep ps ++ all_parts rs = subst (λ (l : List Part). without_keep (l ++ all_parts rs) ≡ without_keep l ++ all_parts rs) (sym front.2) (without_append (entry front.0) front.1 (all_parts rs) (no_keep rs all.1)) in
        rw (e, from_some n r (all_parts rs) ps e) (sym apart)

-- ---- they fit

-- fewer parts of a record
record Fewer (old new : List Part) : Type 0 where
  parts : AllByRecursion FitsPart old → AllByRecursion FitsPart new
  short : length (parts_bytes new) ≤ length (parts_bytes old)

fewer_on : (p : Part) (old new : List Part) → Fewer old new → Fewer (p ∷ old) new
fewer_on p old new w = record { parts = λ all. w.parts all.1; short = let s = w.short in omega (arith, s, length-append (part_bytes p) (parts_bytes old)) }

from_fewer : (n : ℕ) (ps xs : List Part) → from_entry n ps ≡ Some xs → Fewer ps xs
from_fewer n [] xs e = absurd cc
from_fewer n (seal ∷ ps) xs e = fewer_on seal ps xs (from_fewer n ps xs e)
from_fewer n (keep k ∷ ps) xs e = fewer_on (keep k) ps xs (from_fewer n ps xs e)
from_fewer n (entry f ∷ ps) xs e = go (λ q. from_fewer n ps xs q) (f.seq == n) e
  where
    go : (from_entry n ps ≡ Some xs → Fewer ps xs) → (b : Bool) → cond b (Some (entry f ∷ ps)) (from_entry n ps) ≡ Some xs → Fewer (entry f ∷ ps) xs
    go more true q = let same : entry f ∷ ps ≡ xs = cc in subst (Fewer (entry f ∷ ps)) same (record { parts = λ all. all; short = omega arith })
    go more false q = fewer_on (entry f) ps xs (more q)

past_fewer : (ps : List Part) → Fewer ps (past_keep ps)
past_fewer [] = record { parts = λ all. all; short = omega arith }
past_fewer (entry f ∷ ps) = record { parts = λ all. all; short = omega arith }
past_fewer (seal ∷ ps) = record { parts = λ all. all; short = omega arith }
past_fewer (keep k ∷ ps) = record { parts = λ all. all.1; short = omega (arith, length-append (part_bytes (keep k)) (parts_bytes ps)) }

-- a record from its entry on
record_from : (n : ℕ) (r ps : List Part) → FitsRecord r → from_entry n r ≡ Some ps → FitsRecord (without_keep ps)
record_from n r ps fits e = go (found_front n r ps e) (from_fewer n r ps e)
  where
    go : (f : FrameData) × (qs : List Part) × (ps ≡ entry f ∷ qs) → Fewer r ps → FitsRecord (without_keep ps)
    go front w =
        let here : Fewer r (entry front.0 ∷ front.1) = subst (Fewer r) front.2 w in
        let all = here.parts fits.parts in
        let past = past_fewer front.1 in
        let size = length-append (part_bytes (entry front.0)) (parts_bytes front.1) in
        let size_past = length-append (part_bytes (entry front.0)) (parts_bytes (past_keep front.1)) in
        let a = here.short in
        let b = past.short in
        let c = fits.short in
        subst (λ (l : List Part). FitsRecord (without_keep l)) (sym front.2) (record { begins = tt; parts = (all.0, past.parts all.1); short = omega (arith, size, size_past, a, b, c) })

pub records_fit : (n : ℕ) (rs : List (List Part)) → AllByRecursion FitsRecord rs → AllByRecursion FitsRecord (records_from n rs)
records_fit n [] all = tt
records_fit n (r ∷ rs) all = go (records_fit n rs all.1) (from_entry n r) refl
  where
    go : AllByRecursion FitsRecord (records_from n rs) → (o : Option (List Part)) → from_entry n r ≡ o → AllByRecursion FitsRecord (records_from n (r ∷ rs))
    go more None e = rw e more
    go more (Some ps) e = rw e (record_from n r ps all.0 e, all.1)

-- ---- they follow one another

-- behind the first entry its number doesn't matter
other_first : (first n pages m : ℕ) (snap : Option ℕ) (ps : List Part) → first < m → n < m → follows first pages m snap ps ≡ true → follows n pages m snap ps ≡ true
other_first first n pages m snap [] a b e = refl
other_first first n pages m snap (entry f ∷ ps) a b e =
    let t = and_true (f.seq == m && may_stand first m f.kind) (follows first pages (m + 1) (snap_of f) ps) e in
    let u = and_true (f.seq == m) (may_stand first m f.kind) t.0 in
    let stand : may_stand n m f.kind ≡ true = rw (ne_eqb m n (λ (q : m ≡ n). omega (arith, q, b))) (subst (λ (o : Bool). cond o (cond (first == 1) (f.kind == 1) (f.kind == 2)) (not (f.kind == 1)) ≡ true) (ne_eqb m first (λ (q : m ≡ first). omega (arith, q, a))) u.1) in
    and_from _ _ (and_from _ _ u.0 stand) (other_first first n pages (m + 1) (snap_of f) ps (omega (arith, a)) (omega (arith, b)) t.1)
other_first first n pages m snap (seal ∷ ps) a b e = and_from _ _ (lt-ltb n m b) (other_first first n pages m None ps a b (and_true (nat_lt first m) (follows first pages m None ps) e).1)
other_first first n pages m snap (keep k ∷ ps) a b e =
    let t = and_true (is_number snap k.seq && pages_ascend 0 pages (pages_of k)) (follows first pages m None ps) e in
    and_from _ _ t.0 (other_first first n pages m None ps a b t.1)

past_follows : (first pages m : ℕ) (snap : Option ℕ) (ps : List Part) → follows first pages m snap ps ≡ true → follows first pages m snap (past_keep ps) ≡ true
past_follows first pages m snap [] e = e
past_follows first pages m snap (entry f ∷ ps) e = e
past_follows first pages m snap (seal ∷ ps) e = e
past_follows first pages m snap (keep k ∷ ps) e = anyhow ps (and_true (is_number snap k.seq && pages_ascend 0 pages (pages_of k)) (follows first pages m None ps) e).1
  where
    anyhow : (qs : List Part) → follows first pages m None qs ≡ true → follows first pages m snap qs ≡ true
    anyhow [] h = refl
    anyhow (entry f ∷ qs) h = h
    anyhow (seal ∷ qs) h = h
    anyhow (keep q ∷ qs) h = absurd cc

-- from the entry on, as a journal that begins there
pub base_follows : (first pages n : ℕ) (f : FrameData) (behind : List Part) → first ≤ n → 1 < n → f.seq ≡ n → (f.kind == 2) ≡ true → follows first pages n None (entry f ∷ behind) ≡ true → follows n pages n None (entry f ∷ past_keep behind) ≡ true
base_follows first pages n f behind le above seq kind e =
    let t = and_true (f.seq == n && may_stand first n f.kind) (follows first pages (n + 1) (snap_of f) behind) e in
    let stand : may_stand n n f.kind ≡ true = rw (eq-eqb n n refl, ne_eqb n 1 (λ (q : n ≡ 1). omega (arith, q, above)), kind) refl in
    and_from _ _ (and_from _ _ (eq-eqb f.seq n seq) stand) (other_first first n pages (n + 1) (snap_of f) (past_keep behind) (omega (arith, le)) (omega arith) (past_follows first pages (n + 1) (snap_of f) behind t.1))

-- a SNAP entry isn't number 1
pub snap_above : (first pages n : ℕ) (f : FrameData) (behind : List Part) → 1 ≤ first → first ≤ n → (f.kind == 2) ≡ true → follows first pages n None (entry f ∷ behind) ≡ true → 1 < n
snap_above first pages n f behind some le kind e = go (n == 1) refl
  where
    t : (f.seq == n && may_stand first n f.kind) ≡ true
    t = (and_true (f.seq == n && may_stand first n f.kind) (follows first pages (n + 1) (snap_of f) behind) e).0

    go : (b : Bool) → (n == 1) ≡ b → 1 < n
    go true is =
        let one : n ≡ 1 = eqb-true n 1 is in
        let same : n ≡ first = omega (arith, one, some, le) in
        let begin : first ≡ 1 = omega (arith, one, same) in
        let stand : may_stand first n f.kind ≡ true = (and_true (f.seq == n) (may_stand first n f.kind) t).1 in
        let boot : (f.kind == 1) ≡ true = subst (λ (o : Bool). cond o (f.kind == 1) (f.kind == 2) ≡ true) (eq-eqb first 1 begin) (subst (λ (o : Bool). cond o (cond (first == 1) (f.kind == 1) (f.kind == 2)) (not (f.kind == 1)) ≡ true) (eq-eqb n first same) stand) in
        absurd (omega (arith, eqb-true f.kind 1 boot, eqb-true f.kind 2 kind))
    go false is = above (λ (q : n ≡ 1). no q)
      where
        no : n ≡ 1 → ⊥
        no q = absurd (let r : true ≡ false = sym (eq-eqb n 1 q) ∙ is in cc)

        above : (n ≡ 1 → ⊥) → 1 < n
        above h = omega (arith, some, le, h)
