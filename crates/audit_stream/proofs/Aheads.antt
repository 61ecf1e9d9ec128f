-- The next number of things that have one each.
use Rattle.std.proofs.Common.{◌≡◌, ℕ, ◌+◌, ◌≤◌, Bool, true, false, cond, ◌&&◌, nat_lt, List, [], ◌∷◌, refl, arith}
use Rattle.std.proofs.lemmas.Bool.{ltb-true, ltb-false}
use Rattle.audit_stream.specs.Numbers.{least_above, Ahead}

least_under : {A : Type 0} (seq : A → ℕ) (n least : ℕ) (xs : List A) → least_above seq n least xs ≤ least
least_under seq n least [] = omega arith
least_under seq n least (x ∷ xs) = go (nat_lt n (seq x)) (nat_lt (seq x) least) refl (λ y. least_under seq n y xs)
  where
    go : (b c : Bool) → nat_lt (seq x) least ≡ c → ((y : ℕ) → least_above seq n y xs ≤ y) → least_above seq n (cond (b && c) (seq x) least) xs ≤ least
    go true true q ih = let t = ih (seq x) in let s = ltb-true (seq x) least q in omega (arith, t, s)
    go true false q ih = ih least
    go false c q ih = ih least

pub least_ahead : {A : Type 0} (seq : A → ℕ) (n least : ℕ) (xs : List A) → Ahead seq (n + 1) (least_above seq n least xs) xs
least_ahead seq n least [] = tt
least_ahead seq n least (x ∷ xs) = ((λ (le : n + 1 ≤ seq x). go (nat_lt n (seq x)) refl le (nat_lt (seq x) least) refl), least_ahead seq n (cond (nat_lt n (seq x) && nat_lt (seq x) least) (seq x) least) xs)
  where
    go : (b : Bool) → nat_lt n (seq x) ≡ b → n + 1 ≤ seq x → (c : Bool) → nat_lt (seq x) least ≡ c → least_above seq n (cond (b && c) (seq x) least) xs ≤ seq x
    go true p le true q = least_under seq n (seq x) xs
    go true p le false q = let t = least_under seq n least xs in let s = ltb-false (seq x) least q in omega (arith, t, s)
    go false p le c q = let s = ltb-false n (seq x) p in absurd (omega (arith, s, le))

pub ahead_more : {A : Type 0} (seq : A → ℕ) (n wanted : ℕ) (xs : List A) → Ahead seq n wanted xs → Ahead seq (n + 1) wanted xs
ahead_more seq n wanted [] h = tt
ahead_more seq n wanted (x ∷ xs) h = ((λ (le : n + 1 ≤ seq x). h.0 (omega (arith, le))), ahead_more seq n wanted xs h.1)

pub ahead_first : {A : Type 0} (seq : A → ℕ) (n : ℕ) (xs : List A) → Ahead seq n 0 xs
ahead_first seq n [] = tt
ahead_first seq n (x ∷ xs) = ((λ (le : n ≤ seq x). omega arith), ahead_first seq n xs)
