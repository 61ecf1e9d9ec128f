-- Bytes in hexadecimal digits.
use Rattle.std.proofs.Common.{◌≡◌, ℕ, zero, suc, ◌/◌, ◌%◌, ◌<◌, ◌==◌, ◌&&◌, Bool, true, List, [], ◌∷◌, inl, inr, slice_index, refl, ap, ◌∙◌, arith, eqb-true}
use Rattle.std.proofs.lemmas.Bool.{and_parts, cases_lt}
use Rattle.avm_num.specs.Bytes.{IsBytes}
use Rattle.hex.specs.Hex.{encode_with, lower_digits}
use Rattle.list_model.specs.Lines.{hex, digit}

-- the table has a digit at its place
abbrev is_placed : ℕ → Bool
is_placed d = slice_index lower_digits d == digit d

abbrev are_placed : ℕ → Bool
are_placed zero = true
are_placed (suc n) = is_placed n && are_placed n

placed_at : (n k : ℕ) → are_placed n ≡ true → k < n → is_placed k ≡ true
placed_at zero k h lt = absurd (omega arith)
placed_at (suc n) k h lt =
    let parts = and_parts (is_placed n) (are_placed n) h in
    elim (cases_lt k n) [
      | inl below ↦ placed_at n k parts.1 below
      | inr top ↦
          let e : k ≡ n = omega arith in
          rw e parts.0
    ]

digit_is : (d : ℕ) → d < 16 → slice_index lower_digits d ≡ digit d
digit_is d lt = eqb-true (slice_index lower_digits d) (digit d) (placed_at 16 d refl lt)

pub lower_is : (bytes : List ℕ) → IsBytes bytes → encode_with lower_digits bytes ≡ hex bytes
unfolding encode_with hex
lower_is [] all = refl
lower_is (b ∷ bytes) all =
    let byte : b < 256 = all 0 in
    let high = digit_is (b / 16) (omega (arith, byte)) in
    let low = digit_is (b % 16) (omega arith) in
    let rest = lower_is bytes (λ i. all (suc i)) in
    ap (λ (d : ℕ). d ∷ slice_index lower_digits (b % 16) ∷ encode_with lower_digits bytes) high
    ∙ ap (λ (d : ℕ). digit (b / 16) ∷ d ∷ encode_with lower_digits bytes) low
    ∙ ap (λ (l : List ℕ). digit (b / 16) ∷ digit (b % 16) ∷ l) rest
