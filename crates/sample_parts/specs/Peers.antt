-- The other node, with the packet that it made last.
use Rattle.std.specs.Prelude.{ℕ, List}
use Rattle.sample_parts.specs.PeerLog.{PeerLog}

pub record PeerData : Type 0 where
  pub log : PeerLog
  pub packet : List ℕ
