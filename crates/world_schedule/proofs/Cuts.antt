-- Bytes up to a byte.
use Rattle.std.proofs.Common.{◌≡◌, ◌==◌, ℕ, ◌+◌, ◌-◌, Bool, true, false, List, length, take, drop, Some, None, cond, ltb, refl, sym, ap, ◌∙◌, arith, length-drop}
use Rattle.std.specs.List.{position_or_len}
use Rattle.std.proofs.lemmas.List.{take_all}
use Rattle.avm_script.specs.Script.{cut_at}

whole : (n : ℕ) (bytes : List ℕ) → take (length bytes - n) (drop n bytes) ≡ drop n bytes
whole n bytes = take_all (length bytes - n) (drop n bytes) (omega (arith, length-drop n bytes))

is_place : (b : Bool) (n i : ℕ) → Some i ≡ cond b (Some n) None → (b ≡ true) × (i ≡ n)
is_place true n i e = (refl, cc)
is_place false n i e = absurd cc

no_place : (b : Bool) (n : ℕ) → None ≡ cond b (Some n) None → b ≡ false
no_place true n e = absurd cc
no_place false n e = refl

pub cut_found : (c : ℕ) (bytes : List ℕ) (i : ℕ) → Some i ≡ cond (ltb (position_or_len (λ b. b == c) bytes) (length bytes)) (Some (position_or_len (λ b. b == c) bytes)) None
    → Some (take i bytes, take (length bytes - (i + 1)) (drop (i + 1) bytes)) ≡ cut_at c bytes
unfolding cut_at
cut_found c bytes i e =
    let at = is_place (ltb (position_or_len (λ b. b == c) bytes) (length bytes)) (position_or_len (λ b. b == c) bytes) i e in
    ap (λ (l : List ℕ). Some (take i bytes, l)) (whole (i + 1) bytes) ∙ rw (at.0, sym (at.1)) refl

pub cut_none : (c : ℕ) (bytes : List ℕ) → None ≡ cond (ltb (position_or_len (λ b. b == c) bytes) (length bytes)) (Some (position_or_len (λ b. b == c) bytes)) None → None ≡ cut_at c bytes
unfolding cut_at
cut_none c bytes e = rw (no_place (ltb (position_or_len (λ b. b == c) bytes) (length bytes)) (position_or_len (λ b. b == c) bytes) e) refl
