-- What the calls of a map from names to bytes do to one file, which is None where its name isn't there.
use Rattle.std.specs.Prelude.{◌≡◌, ◌⊎◌, ◌<◌, ◌≤◌, ℕ, List, [], ◌++◌, length, take, drop, Option, None, Some, IsSomeAnd, unwrap_or}

-- n bytes were copied from this place of a file to the front of a buffer; 0 only at the file's end
pub record IsCopied (bytes : List ℕ) (at n : ℕ) (old new : List ℕ) : Type 0 where
  pub there : n ≤ length (drop at bytes)
  pub end : n ≡ 0 → 0 < length old → length bytes ≤ at
  pub copied : new ≡ take n (drop at bytes) ++ drop n old

-- what a read of a file gives: None exactly where it isn't there
abbrev pub Reads : Option (List ℕ) → ℕ → List ℕ → List ℕ → Option ℕ → Type 0
Reads None at old new got = got ≡ None
Reads (Some bytes) at old new got = IsSomeAnd got (λ n. IsCopied bytes at n old new)

-- the file with these bytes behind it, made where it wasn't there
abbrev pub appended : List ℕ → Option (List ℕ) → Option (List ℕ)
appended bytes was = Some (unwrap_or was [] ++ bytes)

-- after an append that failed: as before, or with a front of the bytes
abbrev pub AppendsFront : List ℕ → Option (List ℕ) → Option (List ℕ) → Type 0
AppendsFront bytes old new = (new ≡ old) ⊎ ((n : ℕ) × (new ≡ appended (take n bytes) old))
