-- What the rows give.
use Rattle.std.proofs.Common.{◌≡◌, ℕ, zero, suc, ◌+◌, ◌-◌, ◌≤◌, Bool, true, false, cond, List, [], ◌∷◌, slice_get, Option, Some, None, refl, ap, subst, arith}
use Rattle.std.specs.List.{AllByRecursion}
use Rattle.avm_model.specs.Basics.{first_at, or_else}
use Rattle.std.specs.Option.{option_map, option_and_then}
use Rattle.avm_model.specs.Verdict.{first_some, first_pair}

-- a row that isn't the answer is passed
pub skip : {V : Type 0} (o : Option V) (stages : List (Option V)) (d u : V) → (o ≡ Some u → ⊥) → first_some (o ∷ stages) d ≡ u → (o ≡ None) × (first_some stages d ≡ u)
skip None stages d u never e = (refl, e)
skip (Some v) stages d u never e = absurd (never (ap (λ (x : _). Some x) e))

-- a row is the answer where no later one is
pub hit : {V : Type 0} (o : Option V) (stages : List (Option V)) (d u : V) → (first_some stages d ≡ u → ⊥) → first_some (o ∷ stages) d ≡ u → o ≡ Some u
hit None stages d u never e = absurd (never e)
hit (Some v) stages d u never e = ap (λ (x : _). Some x) e

pub with_some : {A B : Type 0} (f : A → B) (o : Option A) (y : B) → option_map f o ≡ Some y → (x : A) × (o ≡ Some x) × (f x ≡ y)
with_some f None y e = absurd cc
with_some f (Some x) y e = (x, refl, cc)

pub then_some : {A B : Type 0} (f : A → Option B) (o : Option A) (y : B) → option_and_then f o ≡ Some y → (x : A) × (o ≡ Some x) × (f x ≡ Some y)
then_some f None y e = absurd cc
then_some f (Some x) y e = (x, refl, e)

pub cond_some : {B : Type 0} (b : Bool) (v y : B) → cond b (Some v) None ≡ Some y → (b ≡ true) × (v ≡ y)
cond_some true v y e = (refl, cc)
cond_some false v y e = absurd cc

-- the place of the first
pub first_at_some : {A : Type 0} (p : A → Bool) (k i : ℕ) (xs : List A) → first_at p k xs ≡ Some i → (x : A) × (k ≤ i) × (slice_get xs (i - k) ≡ Some x) × (p x ≡ true)
first_at_some p k i [] e = absurd cc
first_at_some {A} p k i (x ∷ xs) e = go (p x) refl (λ h. first_at_some p (k + 1) i xs h) e
  where
    go : (b : Bool) → p x ≡ b → (first_at p (k + 1) xs ≡ Some i → (y : A) × (k + 1 ≤ i) × (slice_get xs (i - (k + 1)) ≡ Some y) × (p y ≡ true)) → cond b (Some k) (first_at p (k + 1) xs) ≡ Some i → (y : A) × (k ≤ i) × (slice_get (x ∷ xs) (i - k) ≡ Some y) × (p y ≡ true)
    go true q ih h = let is : k ≡ i = cc in let z : i - k ≡ 0 = omega arith in (x, omega arith, rw z refl, q)
    go false q ih h = let r = ih h in let le = r.1 in let s : i - k ≡ suc (i - (k + 1)) = omega arith in (r.0, omega arith, rw s r.2, r.3)

pub first_pair_some : {A : Type 0} (r : A → A → Bool) (k i j : ℕ) (xs : List A) → first_pair r k xs ≡ Some (i, j) → (a b : A) × (k ≤ i) × (k ≤ j) × (slice_get xs (i - k) ≡ Some a) × (slice_get xs (j - k) ≡ Some b) × (r a b ≡ true)
first_pair_some r k i j [] e = absurd cc
first_pair_some {A} r k i j (x ∷ xs) e = go (first_at (r x) (k + 1) xs) refl (λ h. first_pair_some r (k + 1) i j xs h) e
  where
    Pair : ℕ → List A → Type 0
    Pair n ys = (a b : A) × (n ≤ i) × (n ≤ j) × (slice_get ys (i - n) ≡ Some a) × (slice_get ys (j - n) ≡ Some b) × (r a b ≡ true)

    go : (o : Option ℕ) → first_at (r x) (k + 1) xs ≡ o → (first_pair r (k + 1) xs ≡ Some (i, j) → (a b : A) × (k + 1 ≤ i) × (k + 1 ≤ j) × (slice_get xs (i - (k + 1)) ≡ Some a) × (slice_get xs (j - (k + 1)) ≡ Some b) × (r a b ≡ true))
        → or_else (option_map (λ (m : ℕ). (k, m)) o) (first_pair r (k + 1) xs) ≡ Some (i, j) → (a b : A) × (k ≤ i) × (k ≤ j) × (slice_get (x ∷ xs) (i - k) ≡ Some a) × (slice_get (x ∷ xs) (j - k) ≡ Some b) × (r a b ≡ true)
    go None q ih h =
        let t = ih h in
        let l1 = t.2 in let l2 = t.3 in
        let s1 : i - k ≡ suc (i - (k + 1)) = omega arith in
        let s2 : j - k ≡ suc (j - (k + 1)) = omega arith in
        (t.0, t.1, omega arith, omega arith, rw s1 t.4, rw s2 t.5, t.6)
    go (Some m) q ih h =
        let w : (k, m) ≡ (i, j) = cc in
        let ki : k ≡ i = ap (λ (y : ℕ × ℕ). y.0) w in
        let mj : m ≡ j = ap (λ (y : ℕ × ℕ). y.1) w in
        let t = first_at_some (r x) (k + 1) m xs q in
        let l1 = t.1 in
        let s1 : i - k ≡ 0 = omega arith in
        let s2 : j - k ≡ suc (m - (k + 1)) = omega arith in
        (x, t.0, omega arith, omega arith, rw s1 refl, rw s2 t.2, t.3)

-- no item passes
pub first_at_none : {A : Type 0} (p : A → Bool) (i : ℕ) (xs : List A) → first_at p i xs ≡ None → AllByRecursion (λ x. p x ≡ false) xs
first_at_none p i [] e = tt
first_at_none {A} p i (x ∷ xs) e = go (p x) refl (λ (h : first_at p (i + 1) xs ≡ None). first_at_none p (i + 1) xs h) e
  where
    go : (b : Bool) → p x ≡ b → (first_at p (i + 1) xs ≡ None → AllByRecursion (λ y. p y ≡ false) xs) → cond b (Some i) (first_at p (i + 1) xs) ≡ None → AllByRecursion (λ y. p y ≡ false) (x ∷ xs)
    go true q ih h = absurd cc
    go false q ih h = (q, ih h)

-- what holds of all holds at a place
pub all_get : {A : Type 0} (P : A → Type 0) (xs : List A) (i : ℕ) (x : A) → AllByRecursion P xs → slice_get xs i ≡ Some x → P x
all_get P [] i x h e = absurd cc
all_get P (y ∷ ys) zero x h e = let is : y ≡ x = cc in subst P is h.0
all_get P (y ∷ ys) (suc i) x h e = all_get P ys i x h.1 e

pub at_zero : {A : Type 0} (xs : List A) (i : ℕ) (x : A) → slice_get xs (i - 0) ≡ Some x → slice_get xs i ≡ Some x
at_zero xs i x h = let z : i - 0 ≡ i = omega arith in subst (λ (k : ℕ). slice_get xs k ≡ Some x) z h
