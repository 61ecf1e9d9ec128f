-- The size of a part, as its first bytes say it.
use Rattle.std.specs.Prelude.{ℕ, ◌<◌, List, length, drop, Option, Some, None}
use Rattle.std.specs.Option.{option_map}
use Rattle.std.specs.Int.{w32}
use Rattle.avm_num.specs.Bytes.{number_at}

-- the number of four bytes at a place
unfoldable pub number_there : ℕ → List ℕ → Option ℕ
number_there place bytes = option_map (λ (p : ℕ × List ℕ). p.0) (number_at w32 (drop place bytes))

-- fewer bytes than the part has
abbrev pub IsShort : Option ℕ → List ℕ → Type 0
IsShort None bytes = Unit {0}
IsShort (Some n) bytes = length bytes < n
