-- A list inside a format: a count that stands elsewhere, and that many items.
use Rattle.std.specs.Prelude.{ℕ, nat_le, zero, suc, ◌==◌, List, [], ◌∷◌, ◌++◌, length, Option, Some, None}
use Rattle.std.specs.Int.{Width, w32, to_be_bytes}
use Rattle.avm_num.specs.Bytes.{◌>>=◌, kept, number_at, piece_at}

unfoldable pub list_at : {A : Type 0} → (List ℕ → Option (A × List ℕ)) → ℕ → List ℕ → Option (List A × List ℕ)
list_at item zero bytes = Some ([], bytes)
list_at item (suc n) bytes = do
  x ← item bytes
  xs ← list_at item n x.1
  Some (x.0 ∷ xs.0, xs.1)

-- the spelling of each item, one after another
abbrev pub list_bytes : {A : Type 0} → (A → List ℕ) → List A → List ℕ
list_bytes spell [] = []
list_bytes spell (x ∷ xs) = spell x ++ list_bytes spell xs

-- what was read, or nothing
abbrev pub read_of : {A : Type 0} → Option (List A × List ℕ) → List A
read_of None = []
read_of (Some p) = p.0

-- what was left, where something was read
abbrev pub left_of : {A : Type 0} → Option (List A × List ℕ) → Option (List ℕ)
left_of None = None
left_of (Some p) = Some p.1

-- a number in big-endian: shut, so that no goal shows its bytes
unfoldable pub be : Width → ℕ → List ℕ
be w n = to_be_bytes w n

-- one number alone
abbrev pub exact_at : (List ℕ → Option (ℕ × List ℕ)) → ℕ → List ℕ → Option (Unit {0} × List ℕ)
exact_at number n bytes = number bytes >>= λ x. kept (x.0 == n) (tt, x.1)

-- a length, and that many bytes
abbrev pub sized_at : (List ℕ → Option (ℕ × List ℕ)) → List ℕ → Option (List ℕ × List ℕ)
sized_at number bytes = number bytes >>= λ n. piece_at n.0 n.1

abbrev pub sized_bytes : (ℕ → List ℕ) → List ℕ → List ℕ
sized_bytes spell piece = spell (length piece) ++ piece

-- a length of four bytes up to a limit, and that many bytes
unfoldable pub limited_at : ℕ → List ℕ → Option (List ℕ × List ℕ)
limited_at limit bytes = do
  size ← number_at w32 bytes
  piece ← piece_at size.0 size.1
  kept (nat_le size.0 limit) piece

-- a count, and that many items
abbrev pub many_at : {A : Type 0} → (List ℕ → Option (ℕ × List ℕ)) → (List ℕ → Option (A × List ℕ)) → List ℕ → Option (List A × List ℕ)
many_at number item bytes = number bytes >>= λ n. list_at item n.0 n.1

abbrev pub many_bytes : {A : Type 0} → (ℕ → List ℕ) → (A → List ℕ) → List A → List ℕ
many_bytes spell item xs = spell (length xs) ++ list_bytes item xs

-- one byte, shut too
unfoldable pub one : ℕ → List ℕ
one b = b ∷ []

-- what is read, behind items that stand before it
abbrev pub with_front : {A : Type 0} → List A → Option (List A × List ℕ) → Option (List A × List ℕ)
with_front xs None = None
with_front xs (Some p) = Some (xs ++ p.0, p.1)
