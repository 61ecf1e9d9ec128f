-- Parts that several formats share: a count of steps, the number of an entry or a message, a signature.
use Rattle.std.specs.Prelude.{ℕ, ◌^◌, ◌<◌, ◌≤◌, ◌&&◌, nat_lt, nat_le, List, length, Option}
use Rattle.std.specs.Int.{w32, w64}
use Rattle.avm_num.specs.Bytes.{◌>>=◌, number_at, kept}
use Rattle.avm_num.specs.Lists.{sized_at}

-- a count of steps is below 2^62
unfoldable pub count_at : List ℕ → Option (ℕ × List ℕ)
count_at bytes = do
  n ← number_at w64 bytes
  kept (nat_lt n.0 (2 ^ 62)) n

-- the number of an entry or a message is from 1 to 2^62 - 1
pub record IsOrdinal (n : ℕ) : Type 0 where
  pub first : 1 ≤ n
  pub below : n < 2 ^ 62

unfoldable pub ordinal_at : List ℕ → Option (ℕ × List ℕ)
ordinal_at bytes = do
  n ← number_at w64 bytes
  kept (nat_le 1 n.0 && nat_lt n.0 (2 ^ 62)) n

-- the longest signature of RFC 8554 with 32-byte hashes: w 1 and height 25
abbrev pub longest_signature : ℕ
longest_signature = 9324

unfoldable pub signature_at : List ℕ → Option (List ℕ × List ℕ)
signature_at bytes = do
  sig ← sized_at (number_at w32) bytes
  kept (nat_le (length sig.0) longest_signature) sig
