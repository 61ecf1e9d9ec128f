-- A file that is written in pieces.
use Rattle.std.specs.Prelude.{◌≡◌, ◌⊎◌, ℕ, List, Some, Option, option_map, take, Result, MatchResult}
use Rattle.std.specs.Borrow.{Bor}
use Rattle.avm_num.specs.Lists.{list_bytes}
use Rattle.avm_outside.specs.declared.files.Failed.{Failed}

-- the pieces one after another
abbrev pub joined : List (Bor (List ℕ)) → List ℕ
joined pieces = list_bytes (λ (p : Bor (List ℕ)). p.now) pieces

-- the file of a name has the bytes and nothing else
abbrev pub Written : List ℕ → Option (Option (List ℕ)) → Option (Option (List ℕ)) → Type 0
Written bytes old new = new ≡ option_map (λ _. Some bytes) old

-- the file of a name is as it was, or it has a front of the bytes and nothing else
abbrev pub LeavesFront : List ℕ → Option (Option (List ℕ)) → Option (Option (List ℕ)) → Type 0
LeavesFront bytes old new = (new ≡ old) ⊎ ((n : ℕ) × Written (take n bytes) old new)

-- what a call that writes the bytes leaves
abbrev pub Leaves : Result (Unit {0}) Failed → List ℕ → Option (Option (List ℕ)) → Option (Option (List ℕ)) → Type 0
Leaves result bytes old new = MatchResult result (λ _. Written bytes old new) (λ _. LeavesFront bytes old new)
