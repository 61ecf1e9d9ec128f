use Rattle.std.proofs.Common.{◌≡◌, map, take}
use Rattle.world_schedule.specs.Read.{node_in}
use Rattle.world_start.specs.Start.{keys_from}
use Rattle.world_start.proofs.keys.public_keys.Given as goal

abbrev pub invariant-loop-node : goal.invariant-loop-node
invariant-loop-node l = record {
  counts : l.own ≡ l.node-index;
  so_far : l.keys.items ≡ keys_from 0 (map node_in (take l.node-index l.nodes));
}
