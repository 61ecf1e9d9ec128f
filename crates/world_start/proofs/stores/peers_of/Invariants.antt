use Rattle.std.proofs.Common.{◌≡◌, ◌+◌, ◌++◌, length}
use Rattle.world_start.specs.Start.{rows_from}
use Rattle.world_start.proofs.stores.peers_of.Given as goal

abbrev pub invariant-loop-left : goal.invariant-loop-left
invariant-loop-left l = record {
  counts : l.id + length l.left ≡ length l.fn.keys;
  so_far : l.peers.items ++ rows_from l.own l.id l.left ≡ rows_from l.own 0 l.fn.keys;
}

abbrev pub decreases-loop-left : goal.decreases-loop-left
decreases-loop-left l = length l.left
