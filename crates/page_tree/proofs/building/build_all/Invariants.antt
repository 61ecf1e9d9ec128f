use Rattle.std.proofs.Common.{◌<◌, length}
use Rattle.page_tree.specs.Nodes.{Building}
use Rattle.page_tree.proofs.building.build_all.Given as goal

abbrev pub invariant-loop-place : goal.invariant-loop-place
invariant-loop-place g l = record {
  low : 0 < l.place;
  building : Building g.P.PageHash.hashes l.ram.bytes (length l.ram.dirty) l.nodes l.place;
}

abbrev pub decreases-loop-place : goal.decreases-loop-place
decreases-loop-place g l = l.place
