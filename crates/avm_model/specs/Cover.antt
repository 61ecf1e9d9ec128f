-- The cover in its own words.
use Rattle.std.specs.Prelude.{◌≡◌, ℕ, ◌≤◌, true, false, List, slice_get, Some}
use Rattle.avm_model.specs.declared.judged.Marked.{Marked}
use Rattle.avm_model.specs.Marks.{is_same}

-- authenticator j has number n and equals the chain; none that equals it has a greater number, and none before it the same
pub record IsCover (ms : List Marked) (j n : ℕ) : Type 0 where
  pub mark : Marked
  pub there : slice_get ms j ≡ Some mark
  pub number : mark.seq ≡ n
  pub same : is_same mark.mark ≡ true
  pub greatest : (k : ℕ) (m : Marked) → slice_get ms k ≡ Some m → is_same m.mark ≡ true → m.seq ≤ n
  pub first : (k : ℕ) (m : Marked) → slice_get ms k ≡ Some m → is_same m.mark ≡ true → m.seq ≡ n → j ≤ k

-- no authenticator equals the chain
abbrev pub NoneMatches : List Marked → Type 0
NoneMatches ms = (k : ℕ) (m : Marked) → slice_get ms k ≡ Some m → is_same m.mark ≡ false
