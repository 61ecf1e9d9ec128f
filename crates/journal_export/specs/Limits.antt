-- Numbers past a segment's limits.
use Rattle.std.specs.Prelude.{ℕ, ◌+◌, ◌^◌}

-- one SNAP more than a segment has, and one byte
abbrev pub most_snaps : ℕ
most_snaps = 65

abbrev pub most_bytes : ℕ
most_bytes = 2 ^ 26 + 1
