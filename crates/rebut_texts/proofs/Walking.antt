-- The first place that passes, from a place down.
use Rattle.std.proofs.Common.{◌≡◌, ℕ, zero, suc, ◌+◌, ◌*◌, ◌^◌, ◌<◌, ◌≤◌, IsTrue, Bool, true, false, cond, List, [], ◌∷◌, ◌++◌, Option, Some, None, refl, sym, ◌∙◌, arith}
use Rattle.std.proofs.lemmas.Nat.{pow_pos}
use Rattle.std.proofs.Math.Nat.{pow-succ', suc-mul, le-mul_of_pos_right}
use Rattle.avm_model.specs.Memory.{is_page_count}
use Rattle.avm_model.specs.Pages.{depth_of}
use Rattle.avm_model.proofs.PageDepth.{power_is}
use Rattle.page_tree.proofs.Roots.{doubled}
use Rattle.rebut_texts.specs.Places.{places, first_that}

pub next_doubled : (i d : ℕ) → (2 * i + 1) * 2 ^ d ≡ i * 2 ^ suc d + 2 ^ d
next_doubled i d =
    let e : 2 * i + 1 ≡ suc (2 * i) = omega arith in
    rw (e, suc-mul (2 * i) (2 ^ d), doubled i d) refl

first_some : (p : ℕ → Bool) (xs ys : List ℕ) (k : ℕ) → first_that p xs ≡ Some k → first_that p (xs ++ ys) ≡ Some k
first_some p [] ys k e = absurd cc
first_some p (x ∷ xs) ys k e = go (p x) (first_some p xs ys k) e
  where
    go : (b : Bool) → (first_that p xs ≡ Some k → first_that p (xs ++ ys) ≡ Some k) → cond b (Some x) (first_that p xs) ≡ Some k → cond b (Some x) (first_that p (xs ++ ys)) ≡ Some k
    go true f h = h
    go false f h = f h

first_none : (p : ℕ → Bool) (xs ys : List ℕ) → first_that p xs ≡ None → first_that p (xs ++ ys) ≡ first_that p ys
first_none p [] ys e = refl
first_none p (x ∷ xs) ys e = go (p x) (first_none p xs ys) e
  where
    go : (b : Bool) → (first_that p xs ≡ None → first_that p (xs ++ ys) ≡ first_that p ys) → cond b (Some x) (first_that p xs) ≡ None → cond b (Some x) (first_that p (xs ++ ys)) ≡ first_that p ys
    go true f h = absurd cc
    go false f h = f h

-- what is found from a place down
abbrev pub Finds : ℕ → (ℕ → Bool) → ℕ → Option ℕ → Type 0
Finds n p i r = (d f : ℕ) → i * 2 ^ d ≡ n + f → f + 2 ^ d ≤ n → r ≡ first_that p (places d i)

pub finds_here : (n : ℕ) (p : ℕ → Bool) (i : ℕ) → p i ≡ true → Finds n p i (Some i)
finds_here n p i e zero f l h = rw e refl
finds_here n p i e (suc d) f l h = rw e refl

pub finds_leaf : (n : ℕ) (p : ℕ → Bool) (i : ℕ) → p i ≡ false → n ≤ i → Finds n p i None
finds_leaf n p i e low zero f l h = rw e refl
finds_leaf n p i e low (suc d) f l h =
    let pow : 0 < 2 ^ d = pow_pos d in
    let two : 2 ^ suc d ≡ 2 * 2 ^ d = pow-succ' 2 d in
    let twice : (2 * i) * 2 ^ d ≡ n + f = doubled i d ∙ l in
    let some : 2 * i ≤ (2 * i) * 2 ^ d = le-mul_of_pos_right (2 * i) pow in
    absurd (omega (arith, twice, some, two, h, low))

-- a place that isn't a leaf stands above its two children
inner : {A : Type 0} (n i f : ℕ) → i < n → i * 2 ^ zero ≡ n + f → A
inner n i f lt l = let one : i ≡ n + f = omega (arith, l) in absurd (omega arith)

pub finds_left : (n : ℕ) (p : ℕ → Bool) (i k : ℕ) (r : Option ℕ) → p i ≡ false → i < n → Finds n p (2 * i) r → r ≡ Some k → Finds n p i (Some k)
finds_left n p i k r e lt left is zero f l h = inner n i f lt l
finds_left n p i k r e lt left is (suc d) f l h =
    let two : 2 ^ suc d ≡ 2 * 2 ^ d = pow-succ' 2 d in
    let a = left d f (doubled i d ∙ l) (omega (arith, two, h)) in
    rw e (sym (first_some p (places d (2 * i)) (places d (2 * i + 1)) k (sym a ∙ is)))

pub finds_right : (n : ℕ) (p : ℕ → Bool) (i : ℕ) (r q : Option ℕ) → p i ≡ false → i < n → Finds n p (2 * i) r → r ≡ None → Finds n p (2 * i + 1) q → Finds n p i q
finds_right n p i r q e lt left is right zero f l h = inner n i f lt l
finds_right n p i r q e lt left is right (suc d) f l h =
    let two : 2 ^ suc d ≡ 2 * 2 ^ d = pow-succ' 2 d in
    let a = left d f (doubled i d ∙ l) (omega (arith, two, h)) in
    let place : (2 * i + 1) * 2 ^ d ≡ n + (f + 2 ^ d) = next_doubled i d ∙ omega (arith, l) in
    let b = right d (f + 2 ^ d) place (omega (arith, two, h)) in
    rw e (b ∙ sym (first_none p (places d (2 * i)) (places d (2 * i + 1)) (sym a ∙ is)))

-- from the root down
pub finds_all : (n : ℕ) (p : ℕ → Bool) (r : Option ℕ) → IsTrue (is_page_count n) → Finds n p 1 r → r ≡ first_that p (places (depth_of n) 1)
finds_all n p r c h =
    let power : n ≡ 2 ^ depth_of n = power_is n c in
    h (depth_of n) 0 (omega (arith, power)) (omega (arith, power))
