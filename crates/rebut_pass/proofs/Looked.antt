-- What is looked for among a journal's items is found exactly where it is bound.
use Rattle.std.proofs.Common.{◌≡◌, Bool, true, false, cond, not, ◌&&◌, ◌||◌, nat_eq, List, [], ◌∷◌, ◌++◌, map, refl, sym, ap, ap₂, ◌∙◌}
use Rattle.std.specs.List.{list_any}
use Rattle.avm_model.specs.Auth.{AuthData}
use Rattle.avm_model.specs.Chain.{next_hash}
use Rattle.avm_model.specs.Frame.{FrameData}
use Rattle.journal_model.specs.Journal.{JournalData, entries}
use Rattle.journal_model.specs.Standing.{SignedData, first_pair, signed_items, bound}
use Rattle.jrnl_store.specs.Items.{ItemData, carried_item, entry_item, seal_item, keep_item, items_in}
use Rattle.jrnl_store.specs.Kept.{Kept}
use Rattle.rebut_model.specs.Bound.{is_pair, is_bound}
use Rattle.rebut_pass.specs.Items.{frames_of_items, listed, tickets_of_items}
use Rattle.rebut_pass.specs.Looking.{Looking, opens, is_sought, is_ticket, looked, looked_all}
use Rattle.rebut_pass.specs.Looking.{sought_of}
use Rattle.rebut_pass.proofs.ItemFacts.{frames_are, tickets_are}

any_both : {A : Type 0} (p : A → Bool) (xs ys : List A) → list_any p (xs ++ ys) ≡ (list_any p xs || list_any p ys)
any_both p [] ys = refl
any_both p (x ∷ xs) ys = go (p x) (any_both p xs ys)
  where
    go : (b : Bool) → list_any p (xs ++ ys) ≡ (list_any p xs || list_any p ys) → (b || list_any p (xs ++ ys)) ≡ ((b || list_any p xs) || list_any p ys)
    go true h = refl
    go false h = h

any_map : {A B : Type 0} (f : A → B) (p : B → Bool) (xs : List A) → list_any p (map f xs) ≡ list_any (λ x. p (f x)) xs
any_map f p [] = refl
any_map f p (x ∷ xs) = ap (λ (b : Bool). p (f x) || b) (any_map f p xs)

or_none : (b : Bool) → (b || false) ≡ b
or_none true = refl
or_none false = refl

-- the first entry
abbrev first_any : (FrameData → Bool) → List FrameData → Bool
first_any p [] = false
first_any p (f ∷ fs) = p f

none_any : (fs : List FrameData) → first_any (λ f. false) fs ≡ false
none_any [] = refl
none_any (f ∷ fs) = refl

entry_or : (f o a n t : Bool) → n ≡ false → (((f || o) || a) || (n || t)) ≡ (f || (o || (a || t)))
entry_or true o a n t e = refl
entry_or false true a n t e = refl
entry_or false false true n t e = refl
entry_or false false false n t e = rw e refl

seal_or : (f z x t : Bool) → ((f || z) || (x || t)) ≡ (f || (x || (z || t)))
seal_or true z x t = refl
seal_or false true true t = refl
seal_or false true false t = refl
seal_or false false x t = refl

found_all : (v : Looking) (xs : List ItemData) → (looked_all v xs).found ≡ (v.found || (first_any (opens v) (frames_of_items xs) || list_any (is_ticket v) (tickets_of_items xs)))
found_all v [] = sym (or_none v.found)
found_all v (carried_item f s ∷ xs) = found_all v xs
found_all v (entry_item f t ∷ xs) =
    found_all (looked v (entry_item f t)) xs
    ∙ entry_or v.found (opens v f) (list_any (is_ticket v) (listed t)) (first_any (λ g. false) (frames_of_items xs)) (list_any (is_ticket v) (tickets_of_items xs)) (none_any (frames_of_items xs))
    ∙ ap (λ (b : Bool). v.found || (opens v f || b)) (sym (any_both (is_ticket v) (listed t) (tickets_of_items xs)))
found_all v (seal_item s ∷ xs) = found_all (looked v (seal_item s)) xs ∙ seal_or v.found (is_ticket v s) (first_any (opens v) (frames_of_items xs)) (list_any (is_ticket v) (tickets_of_items xs))
found_all v (keep_item k ∷ xs) = found_all v xs

-- ---- a journal's

first_same : (j : JournalData) (k : Kept) (a : AuthData) (fs : List FrameData) → k.bounds.first ≡ j.header.first → k.before ≡ j.header.before → first_any (opens (sought_of k a)) fs ≡ list_any (is_pair a) (first_pair j.header fs)
first_same j k a [] first before = refl
first_same j k a (f ∷ fs) first before = rw (first, before) (go (nat_eq j.header.first 1))
  where
    go : (b : Bool) → (true && (not b && is_sought (sought_of k a) f.seq (next_hash j.header.before f))) ≡ list_any (is_pair a) (cond b [] ((f.seq, next_hash j.header.before f) ∷ []))
    go true = refl
    go false = sym (or_none (is_sought (sought_of k a) f.seq (next_hash j.header.before f)))

pub bound_found : (j : JournalData) (k : Kept) (a : AuthData) → k.bounds.first ≡ j.header.first → k.before ≡ j.header.before → (looked_all (sought_of k a) (items_in j)).found ≡ is_bound j a
unfolding bound
bound_found j k a first before =
    let v = sought_of k a in
    found_all v (items_in j)
    ∙ ap₂ (λ (fs : List FrameData) (ts : List SignedData). first_any (opens v) fs || list_any (is_ticket v) ts) (frames_are j) (tickets_are j)
    ∙ ap₂ (λ (x y : Bool). x || y) (first_same j k a (entries j) first before) (sym (any_map (λ (s : SignedData). (s.seq, s.hash)) (is_pair a) (signed_items j)))
    ∙ sym (any_both (is_pair a) (first_pair j.header (entries j)) (map (λ (s : SignedData). (s.seq, s.hash)) (signed_items j)))
