-- How long a content can be.
use Rattle.std.specs.Prelude.{ℕ}

-- an ACKED entry: a count and an ACK packet, which holds a count and a DATA packet, which holds a message of 1024 bytes;
-- both packets have the longest signature
abbrev pub longest_content : ℕ
longest_content = 19814
