-- A list whose first elements are changed.
use Rattle.std.proofs.Common.{◌≡◌, ℕ, zero, suc, ◌+◌, ◌<◌, ◌≤◌, List, [], ◌∷◌, length, refl, sym, ap, ◌∙◌, arith, add-one, slice_set}
use Rattle.std.specs.Prelude.{map, slice_index_or}

-- the first elements by a function
abbrev pub upto : {A : Type 0} → (A → A) → ℕ → List A → List A
upto f zero xs = xs
upto f (suc n) [] = []
upto f (suc n) (x ∷ xs) = f x ∷ upto f n xs

set_next : {A : Type 0} (f : A → A) (n : ℕ) (xs : List A) (d : A) → n < length xs → slice_set (upto f n xs) n (f (slice_index_or (upto f n xs) n d)) ≡ upto f (suc n) xs
set_next f n [] d lt = absurd (omega (arith, lt))
set_next f zero (x ∷ xs) d lt = refl
set_next f (suc n) (x ∷ xs) d lt = ap (λ l. f x ∷ l) (set_next f n xs d (omega (arith, lt)))

pub noted_next : {A : Type 0} (f : A → A) (n : ℕ) (xs rows : List A) (d y : A) → rows ≡ upto f n xs → n < length xs → y ≡ f (slice_index_or rows n d) → slice_set rows n y ≡ upto f (n + 1) xs
noted_next {A} f n xs rows d y e lt is =
    ap (slice_set rows n) is
    ∙ ap (λ (l : List A). slice_set l n (f (slice_index_or l n d))) e
    ∙ set_next f n xs d lt
    ∙ ap (λ (m : ℕ). upto f m xs) (sym (add-one n))

upto_all : {A : Type 0} (f : A → A) (xs : List A) → upto f (length xs) xs ≡ map f xs
upto_all f [] = refl
upto_all f (x ∷ xs) = ap (λ l. f x ∷ l) (upto_all f xs)

pub noted_all : {A : Type 0} (f : A → A) (n : ℕ) (xs rows : List A) → rows ≡ upto f n xs → length xs ≤ n → n ≤ length xs → rows ≡ map f xs
noted_all f n xs rows e low high = let same : n ≡ length xs = omega (arith, low, high) in e ∙ ap (λ (m : ℕ). upto f m xs) same ∙ upto_all f xs
