-- What reading so many bytes into a buffer tells.
use Rattle.std.proofs.Common.{◌≡◌, ℕ, ◌+◌, ◌-◌, ◌≤◌, min, ◌∙◌, ap, Option, None, Some, IfSome, List, ◌++◌, length, take, drop, arith}
use Rattle.std.proofs.lemmas.List.{take_at, length-take-le, length-drop}

pub filled_told : (told : Option (List ℕ)) (at size wide n : ℕ) (piece old buffer : List ℕ) → wide ≡ size → IfSome told (λ was. (n ≡ min wide (length was - at)) × (piece ≡ take n (drop at was) ++ old)) → take size buffer ≡ take size piece
    → IfSome told (λ was. at + size ≤ length was → take size buffer ≡ take size (drop at was))
filled_told None at size wide n piece old buffer wide_is read front = tt
filled_told (Some was) at size wide n piece old buffer wide_is read front = λ within.
    let n_is : n ≡ size = omega (arith, read.0, wide_is, within) in
    let len : length (take size (drop at was)) ≡ size = length-take-le size (drop at was) (omega (arith, within, length-drop at was)) in
    front ∙ ap (take size) (read.1 ∙ ap (λ (k : ℕ). take k (drop at was) ++ old) n_is) ∙ take_at (take size (drop at was)) old size len
