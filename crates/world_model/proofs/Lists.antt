-- Members and fronts of lists.
use Rattle.std.proofs.Common.{◌≡◌, ℕ, zero, suc, ◌+◌, ◌≤◌, List, [], ◌∷◌, ◌++◌, length, Some, refl, ap, subst, arith, ◌⊎◌, inl, inr}
use Rattle.std.specs.Prelude.{map, slice_get, slice_set}
use Rattle.world_model.specs.World.{IsPrefix, Message, RunOn}
use Rattle.life_model.specs.Life.{Among}

-- ---- places

pub get_set_same : {A : Type 0} → (xs : List A) (k : ℕ) (x y : A) → slice_get xs k ≡ Some x → slice_get (slice_set xs k y) k ≡ Some y
get_set_same [] k x y e = absurd cc
get_set_same (z ∷ xs) zero x y e = refl
get_set_same (z ∷ xs) (suc k) x y e = get_set_same xs k x y e

pub get_set_other : {A : Type 0} → (xs : List A) (k i : ℕ) (y : A) → (i ≡ k → ⊥) → slice_get (slice_set xs k y) i ≡ slice_get xs i
get_set_other [] k i y n = refl
get_set_other (z ∷ xs) zero zero y n = absurd (n refl)
get_set_other (z ∷ xs) zero (suc i) y n = refl
get_set_other (z ∷ xs) (suc k) zero y n = refl
get_set_other (z ∷ xs) (suc k) (suc i) y n = get_set_other xs k i y (λ e. n (ap (λ (m : ℕ). suc m) e))

pub get_map : {A B : Type 0} (f : A → B) (xs : List A) (i : ℕ) (x : A) → slice_get xs i ≡ Some x → slice_get (map f xs) i ≡ Some (f x)
get_map f [] i x e = absurd cc
get_map f (y ∷ xs) zero x e = let same : y ≡ x = cc in rw same refl
get_map f (y ∷ xs) (suc i) x e = get_map f xs i x e

-- what stands in front stays there
pub get_front : {A : Type 0} (xs ys : List A) (i : ℕ) (x : A) → slice_get xs i ≡ Some x → slice_get (xs ++ ys) i ≡ Some x
get_front [] ys i x e = absurd cc
get_front (z ∷ xs) ys zero x e = e
get_front (z ∷ xs) ys (suc i) x e = get_front xs ys i x e

-- a place behind one more: that one's, or an earlier one
pub get_one_more : {A : Type 0} (xs : List A) (y x : A) (i : ℕ) → slice_get (xs ++ y ∷ []) i ≡ Some x → (slice_get xs i ≡ Some x) ⊎ ((i ≡ length xs) × (x ≡ y))
get_one_more [] y x zero e = inr (refl, cc)
get_one_more [] y x (suc i) e = absurd cc
get_one_more (z ∷ xs) y x zero e = inl e
get_one_more (z ∷ xs) y x (suc i) e = go (get_one_more xs y x i e)
  where
    go : (slice_get xs i ≡ Some x) ⊎ ((i ≡ length xs) × (x ≡ y)) → (slice_get (z ∷ xs) (suc i) ≡ Some x) ⊎ ((suc i ≡ length (z ∷ xs)) × (x ≡ y))
    go (inl h) = inl h
    go (inr h) = inr (ap (λ (n : ℕ). suc n) h.0, h.1)

-- ---- messages with numbers that run on

-- a front runs on too
pub run_front : (n : ℕ) (a b : List Message) → RunOn n (a ++ b) → RunOn n a
run_front n [] b h = tt
run_front n (m ∷ a) b h = (h.0, run_front (n + 1) a b h.1)

pub run_append : (n : ℕ) (a b : List Message) → RunOn n a → RunOn (n + length a) b → RunOn n (a ++ b)
run_append n [] b h k = subst (λ (m : ℕ). RunOn m b) (omega arith) k
run_append n (m ∷ a) b h k =
    let q : n + suc (length a) ≡ n + 1 + length a = omega arith in
    (h.0, run_append (n + 1) a b h.1 (subst (λ (i : ℕ). RunOn i b) q k))

-- a member's number is in its range
pub run_low : (n : ℕ) (ms : List Message) (m : Message) → RunOn n ms → Among m ms → n ≤ m.0
run_low n [] m h a = absurd a
run_low n (x ∷ ms) m h (inl e) =
    let q : x.0 ≡ n = h.0 in
    let p : m.0 ≡ x.0 = ap (λ (y : Message). y.0) e in
    omega (arith, p, q)
run_low n (x ∷ ms) m h (inr a) = let q = run_low (n + 1) ms m h.1 a in omega (arith, q)

pub run_high : (n : ℕ) (ms : List Message) (m : Message) → RunOn n ms → Among m ms → m.0 + 1 ≤ n + length ms
run_high n [] m h a = absurd a
run_high n (x ∷ ms) m h (inl e) =
    let q : x.0 ≡ n = h.0 in
    let p : m.0 ≡ x.0 = ap (λ (y : Message). y.0) e in
    omega (arith, p, q)
run_high n (x ∷ ms) m h (inr a) = let q = run_high (n + 1) ms m h.1 a in omega (arith, q)

-- a list whose members are all among another, both numbered from n, is a front of it
pub run_prefix : (n : ℕ) (a b : List Message) → RunOn n a → RunOn n b → ((m : Message) → Among m a → Among m b) → IsPrefix a b
run_prefix n [] b h k all = (b, refl)
run_prefix n (x ∷ a) [] h k all = absurd (all x (inl refl))
run_prefix n (x ∷ a) (y ∷ b) h k all =
    let same : x ≡ y = first (all x (inl refl)) in
    let rest = run_prefix (n + 1) a b h.1 k.1 (λ m i. tail m i (all m (inr i))) in
    (rest.0, joined same rest)
  where
    first : Among x (y ∷ b) → x ≡ y
    first (inl e) = e
    first (inr i) =
        let low = run_low (n + 1) b x k.1 i in
        let at : x.0 ≡ n = h.0 in
        absurd (omega (arith, low, at))

    tail : (m : Message) → Among m a → Among m (y ∷ b) → Among m b
    tail m i (inr j) = j
    tail m i (inl e) =
        let low = run_low (n + 1) a m h.1 i in
        let at : y.0 ≡ n = k.0 in
        let p : m.0 ≡ y.0 = ap (λ (z : Message). z.0) e in
        absurd (omega (arith, low, at, p))

    joined : x ≡ y → (rest : IsPrefix a b) → (y ∷ b) ≡ (x ∷ a) ++ rest.0
    joined same rest = rw (same, ← rest.1) refl
