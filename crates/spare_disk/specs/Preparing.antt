-- A base is written to a spare, but for its first byte.
use Rattle.std.specs.Prelude.{◌≡◌, ℕ, ◌≤◌, ◌<◌, ◌==◌, ◌^◌, ◌⊎◌, false, List, ◌∷◌, ◌++◌, length, slice_index}
use Rattle.base_model.specs.Spare.{IsBlank, first_byte}

-- a spare of a length, and what reads and crashes give when its place 0 is settled
pub record IsBegun (len : ℕ) (images : List ℕ → Type 0) (was now : List ℕ) : Type 0 where
  pub long : len ≡ length was
  pub blank : IsBlank now
  pub left : (c : List ℕ) → images c → c ≡ now
  pub same : (length now ≡ length was) ⊎ (length was ≤ 1) × (length now ≡ 1)

-- 00 stands from a place on, before an end; all else is as it was
pub record IsWiped (from len : ℕ) (was now : List ℕ) : Type 0 where
  pub long : length now ≡ length was
  pub clear : (p : ℕ) → from ≤ p → p < len → p < 2 ^ 31 → p < length now → slice_index now p ≡ 0
  pub others : (p : ℕ) → p < length was → (from ≤ p → p < len → ⊥) → slice_index now p ≡ slice_index was p

-- bytes of a base behind another byte than a journal's first
pub record HasPiece (piece : List ℕ) (c : List ℕ) : Type 0 where
  pub gate : ℕ
  pub rest : List ℕ
  pub bytes : c ≡ gate ∷ (piece ++ rest)
  pub shut : (gate == first_byte) ≡ false
