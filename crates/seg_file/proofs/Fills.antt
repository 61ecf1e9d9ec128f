-- How much of a part has come.
use Rattle.std.proofs.Common.{◌≡◌, ℕ, ◌+◌, ◌<◌, ◌≤◌, true, List, ◌++◌, length, take, drop, Option, Some, None, refl, sym, ap, subst, ◌∙◌, append-nil, append_assoc, arith, inl, inr, option_map}
use Rattle.std.proofs.lemmas.Bool.{cases_lt}
use Rattle.std.proofs.lemmas.List.{take-take, drop-take, take-append-drop}
use Rattle.avm_num.specs.Sizes.{number_there, IsShort}
use Rattle.seg_file.specs.declared.place.Stage.{Stage}
use Rattle.seg_file.specs.declared.place.Stage.TheVariants.{Front, Page, Entries, Bad}
use Rattle.seg_file.specs.Places.{part_size, least, longest}
use Rattle.seg_file.specs.Filling.{is_live}
use Rattle.avm_num.proofs.Sizes.{there_none, map_back}
use Rattle.seg_file.proofs.PartSizes.{front_sized, frame_sized}

map_none : (k : ℕ) (o : Option ℕ) → option_map (λ m. k + m) o ≡ None → o ≡ None
map_none k None e = refl
map_none k (Some m) e = absurd cc

pub unsized : (s : Stage) (part : List ℕ) → is_live s ≡ true → part_size s part ≡ None → length part < least s
unsized Front part live e = there_none 45 part (map_none 49 _ e)
unsized (Page i) part live e = absurd cc
unsized Entries part live e = there_none 9 part (map_none 13 _ e)
unsized Bad part live e = absurd cc

pub least_size : (s : Stage) (part : List ℕ) (n : ℕ) → part_size s part ≡ Some n → least s ≤ n
least_size Front part n e = let b = map_back 49 n (number_there 45 part) e in omega (arith, b.2)
least_size (Page i) part n e = let h : 4096 ≡ n = cc in omega (arith, h)
least_size Entries part n e = let b = map_back 13 n (number_there 9 part) e in omega (arith, b.2)
least_size Bad part n e = absurd cc

pub grows_size : (s : Stage) (p x : List ℕ) (n : ℕ) → part_size s p ≡ Some n → part_size s (p ++ x) ≡ Some n
grows_size Front p x n e = front_sized.grows p x n e
grows_size (Page i) p x n e = e
grows_size Entries p x n e = frame_sized.grows p x n e
grows_size Bad p x n e = absurd cc

pub longest_most : (s : Stage) → longest s < 24590
longest_most Front = omega arith
longest_most (Page i) = omega arith
longest_most Entries = omega arith
longest_most Bad = omega arith

pub first_fits : (s : Stage) (old part piece : List ℕ) (first size : ℕ) → IsShort (part_size s old) old → part ≡ old ++ take first piece → (length old ≤ least s → length part ≤ least s) → (least s ≤ length old → first ≡ 0) → part_size s part ≡ Some size → length part ≤ size
first_fits s old part piece first size short is upto over e = elim (cases_lt (length old) (least s)) [
  | inl lt ↦ let a = upto (omega (arith, lt)) in let b = least_size s part size e in omega (arith, a, b)
  | inr le ↦
      let same : part ≡ old = is ∙ ap (λ (n : ℕ). old ++ take n piece) (over le) ∙ append-nil old in
      let there : part_size s old ≡ Some size = ap (part_size s) (sym same) ∙ e in
      let lt : length old < size = subst (λ (o : Option ℕ). IsShort o old) there short in
      let l : length part ≡ length old = ap length same in
      omega (arith, lt, l)
]

pub take_two : (n m : ℕ) (xs : List ℕ) → take n xs ++ take m (drop n xs) ≡ take (n + m) xs
take_two n m xs = rw (← take-take n (n + m) xs (omega arith), ← drop-take n m xs) (take-append-drop n (take (n + m) xs))

pub both_fills : (old p q piece : List ℕ) (n m : ℕ) → p ≡ old ++ take n piece → q ≡ p ++ take m (drop n piece) → q ≡ old ++ take (n + m) piece
both_fills old p q piece n m a b = b ∙ ap (λ (t : List ℕ). t ++ take m (drop n piece)) a ∙ append_assoc old (take n piece) (take m (drop n piece)) ∙ ap (λ (t : List ℕ). old ++ t) (take_two n m piece)

pub least_longest : (s : Stage) → least s ≤ longest s
least_longest Front = omega arith
least_longest (Page i) = omega arith
least_longest Entries = omega arith
least_longest Bad = omega arith
