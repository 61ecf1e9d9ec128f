-- The texts of a leaf's chains, and how far each has gone.
use Rattle.std.specs.Prelude.{◌≡◌, ℕ, ◌-◌, ◌≤◌, ◌<◌, List, [], take, drop, slice_index, slice_index_or}
use Rattle.avm_model.specs.LmsOts.{chain}

-- the text of chain i: I, u32 q and u16 i in front of a u8 j and a value
abbrev pub text_at : List (List ℕ) → ℕ → List ℕ
text_at texts i = slice_index_or texts i []

-- a text with this front and this value
pub record IsAt (head x text : List ℕ) : Type 0 where
  pub front : take 22 text ≡ head
  pub value : drop 23 text ≡ x

-- a text that took the steps a to b - 1 of its chain
pub record HasGone (old : List ℕ) (a b : ℕ) (new : List ℕ) : Type 0 where
  pub order : a ≤ b
  pub front : take 22 new ≡ take 22 old
  pub value : drop 23 new ≡ chain (take 22 old) a (b - a) (drop 23 old)

-- texts each of which went from its step in `from` to its step in `at`, and not past its step in `to`
pub record HaveGone (old : List (List ℕ)) (from to : List ℕ) (new : List (List ℕ)) (at : List ℕ) : Type 0 where
  pub each : (i : ℕ) → i < 265 → HasGone (text_at old i) (slice_index from i) (slice_index at i) (text_at new i)
  pub within : (i : ℕ) → i < 265 → slice_index at i ≤ slice_index to i
