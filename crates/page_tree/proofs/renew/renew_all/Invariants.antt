use Rattle.std.proofs.Common.{◌≡◌, ◌<◌, ◌+◌, ◌-◌, ◌*◌, length}
use Rattle.page_tree.specs.Nodes.{marked, Renewing}
use Rattle.page_tree.proofs.renew.renew_all.Given as goal

abbrev pub invariant-loop-place : goal.invariant-loop-place
invariant-loop-place g l = record {
  low : 0 < l.place;
  renewing : Renewing g.P.PageHash.hashes l.ram l.nodes l.marks l.place;
  count : g.P.PageHash.count l.hasher ≡ g.P.PageHash.count l.fn.hasher + marked l.marks l.place (2 * length l.ram.dirty - l.place);
}

abbrev pub decreases-loop-place : goal.decreases-loop-place
decreases-loop-place g l = l.place
