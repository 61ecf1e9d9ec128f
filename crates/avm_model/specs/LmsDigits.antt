-- The digits that a one-time signature signs (RFC 8554).
use Rattle.std.specs.Prelude.{ℕ, zero, suc, ◌+◌, ◌-◌, ◌*◌, ◌/◌, ◌%◌, ◌^◌, List, ◌++◌, slice_index}
use Rattle.std.specs.Int.{w16, to_be_bytes}
use Rattle.avm_model.specs.LmsTypes.{width_of, shift_of}

-- coef(S, i, w): digit i of s, at w bits a digit (section 3.1.3)
unfoldable pub coef : List ℕ → ℕ → ℕ → ℕ
coef s i w = slice_index s (i * w / 8) / 2 ^ (8 - (w * (i % (8 / w)) + w)) % 2 ^ w

-- what the first n digits lack of their greatest value: the sum of section 4.4
abbrev pub lacking : List ℕ → ℕ → ℕ → ℕ
lacking s w zero = 0
lacking s w (suc n) = lacking s w n + (2 ^ w - 1 - coef s n w)

-- Cksm(S), of a digest of 32 bytes (section 4.4, algorithm 2)
unfoldable pub checksum : ℕ → List ℕ → ℕ
checksum ots s = lacking s (width_of ots) (256 / width_of ots) * 2 ^ shift_of ots % 2 ^ 16

-- Q || Cksm(Q), the digits that are signed (section 4.5, algorithm 3)
abbrev pub marked : ℕ → List ℕ → List ℕ
marked ots s = s ++ to_be_bytes w16 (checksum ots s)
