use Rattle.std.proofs.Common.{◌+◌, ◌-◌, length}
use Rattle.page_tree.specs.Nodes.{Building}
use Rattle.page_tree.proofs.building.build_eight.Given as goal

abbrev pub invariant-loop-k : goal.invariant-loop-k
invariant-loop-k g l = Building g.P.PageHash.hashes l.ram.bytes (length l.ram.dirty) l.nodes (l.start + 8 - l.k)
