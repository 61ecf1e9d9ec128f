-- A write that is cut.
use Rattle.std.proofs.Common.{◌≡◌, ◌≤◌, ◌<◌, ◌+◌, ℕ, List, refl, sym, ◌∙◌, length, take, drop, arith}
use Rattle.std.proofs.lemmas.List.{ext_get_or, length-take-le, length-drop, get_or-take, get_or-drop}
use Rattle.avm_outside.specs.Disk.{Torn}

pub Torn-refl : (at n : ℕ) (c : List ℕ) → Torn at n c c
Torn-refl at n c = record { others = λ p lt out. refl; no_shorter = omega arith; no_longer = omega arith }

-- what stands before the range stays
pub front_stays : (at n : ℕ) (old new : List ℕ) → Torn at n old new → (k : ℕ) → k ≤ at → k ≤ length old → take k new ≡ take k old
front_stays at n old new torn k le within =
    ext_get_or 0 (take k new) (take k old) (omega (arith, length-take-le k new (omega (arith, torn.no_shorter)), length-take-le k old within)) (λ i lt.
    let small : i < k = omega (arith, lt, length-take-le k new (omega (arith, torn.no_shorter))) in
    get_or-take k new i 0 small ∙ torn.others i (omega arith) (λ from. omega arith) ∙ sym (get_or-take k old i 0 small))

-- what stands behind the range stays
pub back_stays : (at n : ℕ) (old new : List ℕ) → Torn at n old new → (k : ℕ) → at + n ≤ k → k ≤ length old → drop k new ≡ drop k old
back_stays at n old new torn k le within =
    ext_get_or 0 (drop k new) (drop k old) (omega (arith, length-drop k new, length-drop k old, torn.no_shorter, torn.no_longer)) (λ i lt.
    let small : k + i < length old = omega (arith, lt, length-drop k new, torn.no_shorter, torn.no_longer) in
    get_or-drop k new i 0 ∙ torn.others (k + i) small (λ from. omega arith) ∙ sym (get_or-drop k old i 0))
