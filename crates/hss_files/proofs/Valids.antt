-- What is narrowed verifies under the bottom key.
use Rattle.std.proofs.Common.{◌≡◌, ℕ, ◌≤◌, ◌^◌, ◌==◌, ◌&&◌, nat_le, Bool, true, false, refl, ap₂, subst, List, [], ◌∷◌, length, map, Option, None, Some, arith, if◌then◌else◌}
use Rattle.std.specs.List.{AllByRecursion}
use Rattle.std.specs.Str.{bytes_eq}
use Rattle.std.proofs.lemmas.List.Elements.{recursion_from_All}
use Rattle.std.proofs.lemmas.Slice.Eq.{bytes_eq-Decides}
use Rattle.avm_num.specs.Bytes.{IsBytes}
use Rattle.avm_num.specs.Walk.{all_at}
use Rattle.avm_num.proofs.Walks.{all_front}
use Rattle.avm_model.specs.Auth.{AuthData, auth_bytes, signed_text_of}
use Rattle.avm_model.specs.Keys.{public_file}
use Rattle.avm_model.specs.LmsTypes.{chains_of, height_of}
use Rattle.avm_model.specs.LmsValid.{Valid, number, has_types}
use Rattle.avm_model.proofs.LmsTest.{valid-decides, has_types-decides}
use Rattle.hss_model.specs.Hss.{signature_length, bottom_of, lower_of}
use Rattle.hss_model.specs.HssFile.{hss_auth_at, FitsHssAuth, AreValid, is_good, first_failing, narrowed, narrow_auths, narrow_of, bad_or, mixed_or, Malformed, Narrows}
use Rattle.hss_model.proofs.RoundTrip.{reads_hss_auth, hss_auth_shortens}
use Rattle.hss_files.specs.Answers.{under}
use Rattle.hss_files.proofs.Tests.{none_fails, parts_under}

chains_most : (ots : ℕ) → chains_of ots ≤ 265
unfolding chains_of
chains_most ots = go (ots == 1) (ots == 2) (ots == 3)
  where
    go : (a b c : Bool) → (if a then 265 else if b then 133 else if c then 67 else 34) ≤ 265
    go true b c = omega arith
    go false true c = omega arith
    go false false true = omega arith
    go false false false = omega arith

height_most : (lms : ℕ) → height_of lms ≤ 25
unfolding height_of
height_most lms = go (lms == 5) (lms == 6) (lms == 7) (lms == 8)
  where
    go : (a b c d : Bool) → (if a then 5 else if b then 10 else if c then 15 else if d then 20 else 25) ≤ 25
    go true b c d = omega arith
    go false true c d = omega arith
    go false false true d = omega arith
    go false false false true = omega arith
    go false false false false = omega arith

valid_short : (key text sig : List ℕ) → Valid key text sig → length sig ≤ 9324
valid_short key text sig v = let a = chains_most (number key 4) in let b = height_most (number key 0) in let c = v.by.exact in omega (arith, a, b, c)

public_of_valid : (key text sig : List ℕ) → Valid key text sig → public_file key ≡ true
unfolding public_file has_types
public_of_valid key text sig v =
    let t = (has_types-decides (number key 0) (number key 4)).1 (v.by.lms_type, v.by.ots_type) in
    ap₂ (λ (a : ℕ) (b : Bool). (a == 56) && b) v.exact t

all_valid : (top bottom : List ℕ) (xs : List AuthData) → first_failing (is_good top) xs ≡ None → first_failing (λ b. bytes_eq (bottom_of (signature_length top) b.sig) bottom) xs ≡ None → AllByRecursion FitsHssAuth xs
    → AreValid (under bottom) (map (narrowed (signature_length top)) xs)
all_valid top bottom [] good same fits = tt
all_valid top bottom (a ∷ xs) good same fits =
    let g = none_fails (is_good top) a xs good in
    let s = none_fails (λ (b : AuthData). bytes_eq (bottom_of (signature_length top) b.sig) bottom) a xs same in
    let is : bottom_of (signature_length top) a.sig ≡ bottom = (bytes_eq-Decides _ _).0 s.0 in
    let v : Valid bottom (signed_text_of a.seq a.hash) (lower_of (signature_length top) a.sig) = subst (λ (l : List ℕ). Valid l (signed_text_of a.seq a.hash) (lower_of (signature_length top) a.sig)) is (parts_under top _ a.sig g.0) in (
      record { seq = fits.0.seq; hash = fits.0.hash; sig = valid_short _ _ _ v },
      (valid-decides _ _ _).1 v,
      all_valid top bottom xs g.1 s.1 fits.1,
    )

-- what a narrowing that isn't refused stands on
record Stands (top bottom : List ℕ) (auths xs : List AuthData) : Type 0 where
  a : AuthData
  rest : List AuthData
  is : xs ≡ a ∷ rest
  bottom_is : bottom_of (signature_length top) a.sig ≡ bottom
  auths_are : map (narrowed (signature_length top)) xs ≡ auths
  good : first_failing (is_good top) xs ≡ None
  same : first_failing (λ b. bytes_eq (bottom_of (signature_length top) b.sig) (bottom_of (signature_length top) a.sig)) xs ≡ None

narrowed_stands : (top bottom : List ℕ) (auths xs : List AuthData) → narrow_auths top (Some xs) ≡ Narrows bottom auths → Stands top bottom auths xs
narrowed_stands top bottom auths [] e = absurd cc
narrowed_stands top bottom auths (a ∷ rest) e =
    go (first_failing (is_good top) (a ∷ rest)) (first_failing (λ b. bytes_eq (bottom_of (signature_length top) b.sig) (bottom_of (signature_length top) a.sig)) (a ∷ rest)) refl refl e
  where
    go : (f g : Option ℕ) → first_failing (is_good top) (a ∷ rest) ≡ f → first_failing (λ b. bytes_eq (bottom_of (signature_length top) b.sig) (bottom_of (signature_length top) a.sig)) (a ∷ rest) ≡ g
        → bad_or f (mixed_or (bottom_of (signature_length top) a.sig) (signature_length top) (a ∷ rest) g) ≡ Narrows bottom auths → Stands top bottom auths (a ∷ rest)
    go (Some k) g p q h = absurd cc
    go None (Some k) p q h = absurd cc
    go None None p q h = record { a = a; rest = rest; is = refl; bottom_is = cc; auths_are = cc; good = p; same = q }

bytes_stand : (top bytes bottom : List ℕ) (auths : List AuthData) → narrow_of top bytes ≡ Narrows bottom auths → (xs : List AuthData) × (all_at hss_auth_at bytes ≡ Some xs) × Stands top bottom auths xs
unfolding narrow_of
bytes_stand top bytes bottom auths e = go (nat_le (length bytes) (2 ^ 25)) (all_at hss_auth_at bytes) refl e
  where
    go : (b : Bool) (o : Option (List AuthData)) → all_at hss_auth_at bytes ≡ o → (if b then narrow_auths top o else Malformed) ≡ Narrows bottom auths → (xs : List AuthData) × (all_at hss_auth_at bytes ≡ Some xs) × Stands top bottom auths xs
    go true None p h = absurd cc
    go true (Some xs) p h = (xs, p, narrowed_stands top bottom auths xs h)
    go false o p h = absurd cc

pub narrowed_valid : (top bytes bottom : List ℕ) (auths : List AuthData) → IsBytes bytes → narrow_of top bytes ≡ Narrows bottom auths → AreValid (under bottom) auths
narrowed_valid top bytes bottom auths fits e =
    let s = bytes_stand top bytes bottom auths e in
    let t = s.2 in
    let f = all_front hss_auth_at auth_bytes FitsHssAuth reads_hss_auth hss_auth_shortens bytes s.0 fits s.1 in
    let v = all_valid top (bottom_of (signature_length top) t.a.sig) s.0 t.good t.same (recursion_from_All FitsHssAuth s.0 f.1) in
    subst (λ (ys : List AuthData). AreValid (under bottom) ys) t.auths_are (subst (λ (l : List ℕ). AreValid (under l) (map (narrowed (signature_length top)) s.0)) t.bottom_is v)

pub narrowed_key : (top bytes bottom : List ℕ) (auths : List AuthData) → narrow_of top bytes ≡ Narrows bottom auths → public_file bottom ≡ true
narrowed_key top bytes bottom auths e =
    let s = bytes_stand top bytes bottom auths e in
    let t = s.2 in
    let g = none_fails (is_good top) t.a t.rest (rw t.is at t.good) in
    subst (λ (l : List ℕ). public_file l ≡ true) t.bottom_is (public_of_valid _ _ _ (parts_under top _ t.a.sig g.0))
