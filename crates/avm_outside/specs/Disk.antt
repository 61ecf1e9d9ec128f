-- The stated disk: what a call does to it, and what a crash may leave. An image is a list of bytes, and what may be left
-- is a family over images.
use Rattle.std.specs.Prelude.{◌<◌, ◌≡◌, ◌⊎◌, ℕ, ◌+◌, ◌≤◌, max, List, slice_index, ◌++◌, length, take, drop}

-- the bytes with these at this place
abbrev pub overwritten : ℕ → List ℕ → List ℕ → List ℕ
overwritten at bytes was = take at was ++ bytes ++ drop (at + length bytes) was

-- After a write of n bytes that was cut or failed: any bytes in its range and past the old end, all others the same;
-- the length at least the old one, at most that or the end of the range.
pub record Torn (at n : ℕ) (old new : List ℕ) : Type 0 where
  pub others : (p : ℕ) → p < length old → (at ≤ p → at + n ≤ p) → slice_index new p ≡ slice_index old p
  pub no_shorter : length old ≤ length new
  pub no_longer : length new ≤ max (length old) (at + n)

-- each new outcome of a crash is an old outcome after a step
abbrev pub Follows : (List ℕ → List ℕ → Type 0) → (List ℕ → Type 0) → (List ℕ → Type 0) → Type 0
Follows step old new = (c : List ℕ) → new c → (d : List ℕ) × old d × step d c

-- a crash leaves this and nothing else
abbrev pub Only : List ℕ → (List ℕ → Type 0) → Type 0
Only file outcomes = (c : List ℕ) → outcomes c → c ≡ file

-- Time goes on: a crash since t might have left what it might have left before, or what it may leave now.
pub record Elapses (before now : ℕ) (past since : ℕ → List ℕ → Type 0) (may_leave : List ℕ → Type 0) : Type 0 where
  pub later : before ≤ now
  pub nothing_else : (t : ℕ) (c : List ℕ) → t ≤ before → since t c → past t c ⊎ may_leave c
  pub keeps : (t : ℕ) (c : List ℕ) → t ≤ before → past t c → since t c
