-- An authenticator of a signing item is bound by the journal, and verifies.
use Rattle.std.proofs.Common.{◌≡◌, inl, inr, ℕ, ◌+◌, ◌<◌, ◌^◌, ◌==◌, ◌||◌, Bool, true, false, List, [], ◌∷◌, ◌++◌, length, map, refl, sym, ap, subst, ◌∙◌, arith, eq-eqb}
use Rattle.std.specs.List.{list_any}
use Rattle.std.specs.Str.{bytes_eq}
use Rattle.std.proofs.lemmas.Nat.{from_be_bytes-to_be_bytes_4}
use Rattle.std.proofs.lemmas.Slice.Eq.{bytes_eq-Decides}
use Rattle.avm_model.specs.Auth.{AuthData, signed_text_of}
use Rattle.avm_model.specs.Keys.{FitsKey, KeyData, public_of}
use Rattle.avm_model.specs.LmsTypes.{height_of}
use Rattle.avm_model.specs.LmsValid.{number}
use Rattle.avm_model.specs.Marks.{verifies}
use Rattle.avm_model.proofs.KeyLaws.{sig_of-true}
use Rattle.journal_model.specs.Fits.{FitsJournal}
use Rattle.journal_model.specs.Header.{most_leaves}
use Rattle.journal_model.specs.Journal.{JournalData, entries, parts, used}
use Rattle.journal_model.specs.Standing.{LeavesFrom, SignedData, bound, first_pair, signed_items, standing, start}
use Rattle.journal_model.proofs.Judging.{stands_used}
use Rattle.journal_model.proofs.Signing.{items_leaves}
use Rattle.rebut_model.specs.Bound.{is_bound, is_pair}
use Rattle.record_model.specs.Released.{Sender}
use Rattle.life_model.specs.Life.{Among}
use Rattle.life_model.proofs.Points.{leaves_used}
use Rattle.release_laws.proofs.Pieces.{IsItem}

-- ---- bound

or_right : (a b : Bool) → b ≡ true → (a || b) ≡ true
or_right true b e = refl
or_right false b e = e

any_right : {A : Type 0} (p : A → Bool) (xs ys : List A) → list_any p ys ≡ true → list_any p (xs ++ ys) ≡ true
any_right p [] ys e = e
any_right p (x ∷ xs) ys e = or_right (p x) (list_any p (xs ++ ys)) (any_right p xs ys e)

abbrev pair_of : SignedData → ℕ × List ℕ
pair_of s = (s.seq, s.hash)

any_among : (a : AuthData) (x : SignedData) (xs : List SignedData) → is_pair a (pair_of x) ≡ true → Among x xs → list_any (is_pair a) (map pair_of xs) ≡ true
any_among a x [] e h = absurd h
any_among a x (y ∷ xs) e (inl is) = rw (subst (λ (z : SignedData). is_pair a (pair_of z) ≡ true) is e) refl
any_among a x (y ∷ xs) e (inr h) = or_right (is_pair a (pair_of y)) (list_any (is_pair a) (map pair_of xs)) (any_among a x xs e h)

pub item_bound : (who : Sender) (j : JournalData) (n : ℕ) (a : AuthData) → IsItem who (signed_items j) n a → is_bound j a ≡ true
unfolding bound
item_bound who j n a i =
    let seq : (i.item.seq == a.seq) ≡ true = eq-eqb i.item.seq a.seq (sym i.seq) in
    let hash : bytes_eq i.item.hash a.hash ≡ true = (bytes_eq-Decides i.item.hash a.hash).1 (sym i.hash) in
    let pair : is_pair a (pair_of i.item) ≡ true = rw (seq, hash) refl in
    any_right (is_pair a) (first_pair j.header (entries j)) (map pair_of (signed_items j)) (any_among a i.item (signed_items j) pair i.stands)

-- ---- verifies

leaf_below : (n : ℕ) (ss : List SignedData) (x : SignedData) → LeavesFrom n ss → Among x ss → x.leaf < n + length ss
leaf_below n [] x run h = absurd h
leaf_below n (s ∷ ss) x run (inl e) = let same : x.leaf ≡ s.leaf = ap (λ (y : SignedData). y.leaf) e in omega (arith, same, run.0)
leaf_below n (s ∷ ss) x run (inr h) = let lt = leaf_below (n + 1) ss x run.1 h in omega (arith, lt)

number_is : (k : KeyData) → k.lms < 2 ^ 32 → number (public_of k) 0 ≡ k.lms
unfolding public_of
number_is k lt = from_be_bytes-to_be_bytes_4 k.lms lt

most_is : (key : List ℕ) (k : KeyData) → FitsKey k → key ≡ public_of k → most_leaves key ≡ 2 ^ height_of k.lms
unfolding most_leaves
most_is key k fits e = ap (λ (x : List ℕ). 2 ^ height_of (number x 0)) e ∙ ap (λ (n : ℕ). 2 ^ height_of n) (number_is k (let h = fits.types.lms_high in omega (arith, h)))

items_used : (j : JournalData) → j.header.leaves + length (signed_items j) ≡ used j
unfolding signed_items standing
items_used j = leaves_used (start j.header) (parts j) ∙ stands_used j

pub item_verifies : (who : Sender) (j : JournalData) (n : ℕ) (a : AuthData) → FitsJournal j → FitsKey who.key → j.header.key ≡ public_of who.key → IsItem who (signed_items j) n a → verifies (public_of who.key) a ≡ true
item_verifies who j n a w fits key i =
    let low : i.item.leaf < j.header.leaves + length (signed_items j) = leaf_below j.header.leaves (signed_items j) i.item (items_leaves j) i.stands in
    let all = items_used j in
    let most = w.leaves in
    let is = most_is j.header.key who.key fits key in
    let lt : i.item.leaf < 2 ^ height_of who.key.lms = omega (arith, low, all, most, is) in
    let ok = sig_of-true who.key i.item.leaf (signed_text_of i.item.seq i.item.hash) fits.types fits.id lt in
    rw (i.seq, i.hash, i.sig) ok
