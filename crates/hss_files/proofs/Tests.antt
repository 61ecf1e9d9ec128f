-- The test of a signature under two keys is true exactly where it is valid, and the first that fails a test.
use Rattle.std.proofs.Common.{◌≡◌, ℕ, suc, ◌+◌, not, ◌&&◌, Bool, true, false, refl, sym, ◌∙◌, ap, List, [], ◌∷◌, take, drop, Option, None, Some, option_map, arith, IsTrue, ◌↔◌, if◌then◌else◌}
use Rattle.std.specs.Int.{w32}
use Rattle.std.specs.Str.{bytes_eq}
use Rattle.std.proofs.lemmas.Bool.Decides.{same_from_decides}
use Rattle.std.proofs.lemmas.Slice.Eq.{bytes_eq-Decides}
use Rattle.avm_num.specs.Lists.{be}
use Rattle.avm_num.proofs.Numbers.{and_true}
use Rattle.avm_model.specs.Basics.{first_at}
use Rattle.avm_model.specs.LmsValid.{Valid, valid}
use Rattle.avm_model.proofs.LmsTest.{valid-decides}
use Rattle.hss_model.specs.Hss.{HssValid, hss_key, hss_valid, signature_length, bottom_of, upper_of, lower_of}
use Rattle.hss_model.specs.HssFile.{first_failing}
use Rattle.lms_hss.proofs.HssLaws.{parts_of, valid_of}

pub valid_parts : (key text sig : List ℕ) → hss_valid key text sig ≡ true → HssValid key text sig
unfolding hss_valid be
valid_parts key text sig e =
    let n = signature_length (drop 4 key) in
    let k = and_true (bytes_eq (take 4 key) (be w32 2)) _ e in
    let s = and_true (bytes_eq (take 4 sig) (be w32 1) && valid (drop 4 key) (bottom_of n sig) (upper_of n sig)) _ k.1 in
    let t = and_true (bytes_eq (take 4 sig) (be w32 1)) _ s.0 in
    valid_of key text sig n ((bytes_eq-Decides _ _).0 k.0) ((bytes_eq-Decides _ _).0 t.0) ((valid-decides _ _ _).0 t.1) ((valid-decides _ _ _).0 s.1)

pub parts_valid : (key text sig : List ℕ) → HssValid key text sig → hss_valid key text sig ≡ true
unfolding hss_valid be
parts_valid key text sig h =
    let p = parts_of key text sig h in
    let n = signature_length (drop 4 key) in
    let a : bytes_eq (take 4 key) (be w32 2) ≡ true = (bytes_eq-Decides _ _).1 p.mark in
    let b : bytes_eq (take 4 sig) (be w32 1) ≡ true = (bytes_eq-Decides _ _).1 p.sig_mark in
    let v : valid (drop 4 key) (bottom_of n sig) (upper_of n sig) ≡ true = (valid-decides _ _ _).1 p.binds in
    let w : valid (bottom_of n sig) text (lower_of n sig) ≡ true = (valid-decides _ _ _).1 p.signs in
    rw (a, b, v, w) refl

pub hss_test : (b : Bool) (key text sig : List ℕ) → IsTrue b ↔ HssValid key text sig → b ≡ hss_valid key text sig
hss_test b key text sig h = same_from_decides b (hss_valid key text sig) h (λ t. valid_parts key text sig t, λ p. parts_valid key text sig p)

-- the parts of a valid signature under a top key
pub parts_under : (top text sig : List ℕ) → hss_valid (hss_key top) text sig ≡ true → Valid (bottom_of (signature_length top) sig) text (lower_of (signature_length top) sig)
unfolding be
parts_under top text sig e = (parts_of (hss_key top) text sig (valid_parts (hss_key top) text sig e)).signs

-- ---- the first that fails

shifted : (i : ℕ) (o : Option ℕ) → option_map (λ k. i + k) (option_map (λ k. suc k) o) ≡ option_map (λ k. i + 1 + k) o
shifted i None = refl
shifted i (Some k) = ap (λ (m : ℕ). Some m) (let e : i + suc k ≡ i + 1 + k = omega arith in e)

first_from : {A : Type 0} (test : A → Bool) (i : ℕ) (xs : List A) → option_map (λ k. i + k) (first_failing test xs) ≡ first_at (λ a. not (test a)) i xs
first_from test i [] = refl
first_from {A} test i (x ∷ xs) = go (test x) (first_from test (i + 1) xs)
  where
    go : (b : Bool) → option_map (λ k. i + 1 + k) (first_failing test xs) ≡ first_at (λ a. not (test a)) (i + 1) xs
        → option_map (λ k. i + k) (if b then option_map (λ k. suc k) (first_failing test xs) else Some 0) ≡ (if not b then Some i else first_at (λ a. not (test a)) (i + 1) xs)
    go true ih = shifted i (first_failing test xs) ∙ ih
    go false ih = ap (λ (m : ℕ). Some m) (let e : i + 0 ≡ i = omega arith in e)

from_zero : (o : Option ℕ) → option_map (λ k. 0 + k) o ≡ o
from_zero None = refl
from_zero (Some k) = ap (λ (m : ℕ). Some m) (let e : 0 + k ≡ k = omega arith in e)

pub first_is : {A : Type 0} (test : A → Bool) (xs : List A) → first_failing test xs ≡ first_at (λ a. not (test a)) 0 xs
first_is test xs = sym (from_zero (first_failing test xs)) ∙ first_from test 0 xs

-- none fails: the first passes, and the others do
pub none_fails : {A : Type 0} (test : A → Bool) (x : A) (xs : List A) → first_failing test (x ∷ xs) ≡ None → (test x ≡ true) × (first_failing test xs ≡ None)
none_fails {A} test x xs e = go (test x) (first_failing test xs) e
  where
    go : (b : Bool) (o : Option ℕ) → (if b then option_map (λ k. suc k) o else Some 0) ≡ None → (b ≡ true) × (o ≡ None)
    go true None h = (refl, refl)
    go true (Some k) h = absurd cc
    go false o h = absurd cc
