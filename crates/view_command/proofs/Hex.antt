-- Bytes in hexadecimal digits.
use Rattle.std.proofs.Common.{◌≡◌, ℕ, ◌/◌, ◌%◌, List, [], ◌∷◌, refl, ap}
use Rattle.hex.specs.Hex.{encode_with, lower_digits}
use Rattle.view_command.specs.Lines.{hex_text, hex_glyph}

pub lower_is : (bytes : List ℕ) → encode_with lower_digits bytes ≡ hex_text bytes
unfolding encode_with hex_text
lower_is [] = refl
lower_is (b ∷ bytes) = ap (λ (l : List ℕ). hex_glyph (b / 16) ∷ hex_glyph (b % 16) ∷ l) (lower_is bytes)
