-- Bytes that are compared page by page.
use Rattle.std.proofs.Common.{◌≡◌, ℕ, ◌+◌, ◌-◌, ◌*◌, ◌≤◌, true, List, ◌++◌, length, take, drop, refl, sym, ap, ◌∙◌, arith}
use Rattle.std.specs.Prelude.{slice_range}
use Rattle.std.specs.Str.{bytes_eq}
use Rattle.std.proofs.Math.Seq.{take-add}
use Rattle.std.proofs.lemmas.List.{take_all}
use Rattle.std.specs.Cmp.Lexicographic.{bytes_decides}

-- the first i pages are those
abbrev pub Same : List ℕ → List ℕ → ℕ → Type 0
Same a b i = take (4096 * i) a ≡ take (4096 * i) b

ranged : (xs : List ℕ) (i : ℕ) → take (4096 * (i + 1)) xs ≡ take (4096 * i) xs ++ slice_range xs (4096 * i) (4096 * i + 4096)
ranged xs i =
    let more : 4096 * (i + 1) ≡ 4096 * i + 4096 = omega arith in
    let page : 4096 * i + 4096 - 4096 * i ≡ 4096 = omega arith in
    ap (λ (n : ℕ). take n xs) more ∙ take-add (4096 * i) 4096 xs ∙ ap (λ (n : ℕ). take (4096 * i) xs ++ take n (drop (4096 * i) xs)) (sym page)

pub same_more : (a b page : List ℕ) (i : ℕ) → Same a b i → slice_range a (4096 * i) (4096 * i + 4096) ≡ page → page ≡ slice_range b (4096 * i) (4096 * i + 4096) → Same a b (i + 1)
same_more a b page i h p q = ranged a i ∙ rw (h, p, q) refl ∙ sym (ranged b i)

pub all_same : (a b : List ℕ) (n i : ℕ) → length a ≡ length b → length a ≡ 4096 * n → n ≤ i → Same a b i → true ≡ bytes_eq a b
all_same a b n i len size past h =
    let la : length a ≤ 4096 * i = omega (arith, size, past) in
    let lb : length b ≤ 4096 * i = omega (arith, size, past, len) in
    sym ((bytes_decides a b).1 (sym (take_all (4096 * i) a la) ∙ h ∙ take_all (4096 * i) b lb))
