-- What a change to the rows of the peers keeps.
use Rattle.std.specs.Prelude.{ℕ, ◌<◌, ◌≤◌, List, All}
use Rattle.avm_model.specs.declared.Peer.{Peer}

-- no more messages are counted as sent
pub record SentKept (old new : List Peer) : Type 0 where
  pub kept : (n : ℕ) → All (λ p. p.sent ≤ n) old → All (λ p. p.sent ≤ n) new

-- snapshots have a distance, and no row counts more messages than there were steps
pub record IsCounted (snap count : ℕ) (peers : List Peer) : Type 0 where
  pub distance : 0 < snap
  pub sent : All (λ p. p.sent ≤ count) peers
