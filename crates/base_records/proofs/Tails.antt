-- A record from an entry on.
use Rattle.std.proofs.Common.{◌≡◌, ℕ, ◌-◌, Bool, true, false, cond, List, [], ◌∷◌, ◌++◌, length, take, Option, Some, None, refl, sym, ap, subst, ◌∙◌, arith}
use Rattle.std.proofs.Math.Seq.{take-append_seam}
use Rattle.std.proofs.lemmas.List.{length-append}
use Rattle.std.specs.List.{AllByRecursion}
use Rattle.avm_model.specs.Frame.{FrameData}
use Rattle.base_model.specs.Base.{from_entry, past_keep, without_keep}
use Rattle.journal_model.specs.Part.{Part, entry, seal, keep, KeepData, part_at}
use Rattle.journal_model.specs.Spelling.{part_bytes, parts_bytes}
use Rattle.journal_spelling.specs.Spelled.{FitsPart}
use Rattle.journal_spelling.proofs.PartLaws.{reads_part}
use Rattle.base_records.specs.Records.{is_entry}

pub none_here : part_at [] ≡ None
unfolding part_at
none_here = refl

-- what is read in front of parts is the first
record Reading (ps : List Part) (p : Part) (rest : List ℕ) : Type 0 where
  behind : List Part
  all : ps ≡ p ∷ behind
  bytes : rest ≡ parts_bytes behind
  fit : AllByRecursion FitsPart behind

reading : (ps : List Part) (p : Part) (rest : List ℕ) → AllByRecursion FitsPart ps → part_at (parts_bytes ps) ≡ Some (p, rest) → Reading ps p rest
reading [] p rest fit e = never (sym none_here ∙ e)
  where
    never : ◌≡◌ {A = Option (Part × List ℕ)} None (Some (p, rest)) → Reading [] p rest
    never h = absurd cc
reading (q ∷ qs) p rest fit e =
    let same : ◌≡◌ {A = Option (Part × List ℕ)} (Some (q, parts_bytes qs)) (Some (p, rest)) = sym (reads_part.again q (parts_bytes qs) fit.0) ∙ e in
    let both : ◌≡◌ {A = Part × List ℕ} (q, parts_bytes qs) (p, rest) = inner _ _ same in
    record { behind = qs; all = ap (λ (b : Part × List ℕ). b.0 ∷ qs) both; bytes = sym (ap (λ (b : Part × List ℕ). b.1) both); fit = fit.1 }
  where
    inner : (x y : Part × List ℕ) → Some x ≡ Some y → x ≡ y
    inner x y h = cc

not_here : (ps : List Part) → AllByRecursion FitsPart ps → part_at (parts_bytes ps) ≡ None → ps ≡ []
not_here [] fit e = refl
not_here (q ∷ qs) fit e = never (sym (reads_part.again q (parts_bytes qs) fit.0) ∙ e)
  where
    never : ◌≡◌ {A = Option (Part × List ℕ)} (Some (q, parts_bytes qs)) None → q ∷ qs ≡ []
    never h = absurd cc

-- ---- a keep in front

abbrev pub IsPast : List ℕ → List ℕ → Type 0
IsPast items result = (ps : List Part) → AllByRecursion FitsPart ps → items ≡ parts_bytes ps → result ≡ parts_bytes (past_keep ps)

pub past_keep_is : (items rest : List ℕ) (k : KeepData) → part_at items ≡ Some (keep k, rest) → IsPast items rest
past_keep_is items rest k e ps fit is =
    let r = reading ps (keep k) rest fit (subst (λ (l : List ℕ). part_at l ≡ Some (keep k, rest)) is e) in
    r.bytes ∙ ap (λ (l : List Part). parts_bytes (past_keep l)) (sym r.all)

pub past_entry_is : (items rest : List ℕ) (f : FrameData) → part_at items ≡ Some (entry f, rest) → IsPast items items
past_entry_is items rest f e ps fit is =
    let r = reading ps (entry f) rest fit (subst (λ (l : List ℕ). part_at l ≡ Some (entry f, rest)) is e) in
    is ∙ ap parts_bytes r.all ∙ ap (λ (l : List Part). parts_bytes (past_keep l)) (sym r.all)

pub past_seal_is : (items rest : List ℕ) → part_at items ≡ Some (seal, rest) → IsPast items items
past_seal_is items rest e ps fit is =
    let r = reading ps seal rest fit (subst (λ (l : List ℕ). part_at l ≡ Some (seal, rest)) is e) in
    is ∙ ap parts_bytes r.all ∙ ap (λ (l : List Part). parts_bytes (past_keep l)) (sym r.all)

pub past_none_is : (items : List ℕ) → part_at items ≡ None → IsPast items items
past_none_is items e ps fit is =
    let r = not_here ps fit (subst (λ (l : List ℕ). part_at l ≡ None) is e) in
    is ∙ ap parts_bytes r ∙ ap (λ (l : List Part). parts_bytes (past_keep l)) (sym r)

-- ---- the entry

-- these items are behind those before the entry
abbrev pub Left : ℕ → List ℕ → List ℕ → Type 0
Left n items here = (ps : List Part) → AllByRecursion FitsPart ps → items ≡ parts_bytes ps → (qs : List Part) × AllByRecursion FitsPart qs × (here ≡ parts_bytes qs) × (from_entry n ps ≡ from_entry n qs)

pub left_first : (n : ℕ) (items : List ℕ) → Left n items items
left_first n items ps fit is = (ps, fit, is, refl)

passed : (n : ℕ) (p : Part) (qs : List Part) → is_entry n p ≡ false → from_entry n (p ∷ qs) ≡ from_entry n qs
passed n (entry f) qs e = ap (λ (b : Bool). cond b (Some (entry f ∷ qs)) (from_entry n qs)) e
passed n seal qs e = refl
passed n (keep k) qs e = refl

here_is : (n : ℕ) (p : Part) (qs : List Part) → is_entry n p ≡ true → from_entry n (p ∷ qs) ≡ Some (p ∷ qs)
here_is n (entry f) qs e = ap (λ (b : Bool). cond b (Some (entry f ∷ qs)) (from_entry n qs)) e
here_is n seal qs e = absurd cc
here_is n (keep k) qs e = absurd cc

pub left_on : (n : ℕ) (items here rest : List ℕ) (p : Part) → part_at here ≡ Some (p, rest) → is_entry n p ≡ false → Left n items here → Left n items rest
left_on n items here rest p e other left ps fit is =
    let l = left ps fit is in
    let r = reading l.0 p rest l.1 (subst (λ (x : List ℕ). part_at x ≡ Some (p, rest)) l.2 e) in
    (r.behind, r.fit, r.bytes, l.3 ∙ ap (from_entry n) r.all ∙ passed n p r.behind other)

pub left_none : (n : ℕ) (items here : List ℕ) → part_at here ≡ None → Left n items here → (ps : List Part) → AllByRecursion FitsPart ps → items ≡ parts_bytes ps → from_entry n ps ≡ None
left_none n items here e left ps fit is =
    let l = left ps fit is in
    l.3 ∙ ap (from_entry n) (not_here l.0 l.1 (subst (λ (x : List ℕ). part_at x ≡ None) l.2 e))

front_taken : (x y : List ℕ) → take (length (x ++ y) - length y) (x ++ y) ≡ x
front_taken x y = subst (λ (n : ℕ). take n (x ++ y) ≡ x) (omega (arith, length-append x y)) (take-append_seam x y)

pub left_found : (n : ℕ) (items here rest front behind : List ℕ) (p : Part) → part_at here ≡ Some (p, rest) → is_entry n p ≡ true → front ≡ take (length here - length rest) here → IsPast rest behind → Left n items here
    → (ps : List Part) → AllByRecursion FitsPart ps → items ≡ parts_bytes ps → (xs : List Part) × (from_entry n ps ≡ Some xs) × (front ++ behind ≡ parts_bytes (without_keep xs))
left_found n items here rest front behind p e own cut past left ps fit is =
    let l = left ps fit is in
    let r = reading l.0 p rest l.1 (subst (λ (x : List ℕ). part_at x ≡ Some (p, rest)) l.2 e) in
    let whole : here ≡ part_bytes p ++ rest = l.2 ∙ ap parts_bytes r.all ∙ ap (λ (x : List ℕ). part_bytes p ++ x) (sym r.bytes) in
    let first : front ≡ part_bytes p = cut ∙ ap (λ (x : List ℕ). take (length x - length rest) x) whole ∙ front_taken (part_bytes p) rest in
    (p ∷ r.behind, l.3 ∙ ap (from_entry n) r.all ∙ here_is n p r.behind own, ap (λ (x : List ℕ). x ++ behind) first ∙ ap (λ (x : List ℕ). part_bytes p ++ x) (past r.behind r.fit r.bytes))
