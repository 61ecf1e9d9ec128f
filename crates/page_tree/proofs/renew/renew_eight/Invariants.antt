use Rattle.std.proofs.Common.{◌≡◌, ℕ, ◌+◌, ◌-◌, ◌*◌, length}
use Rattle.page_tree.specs.Nodes.{marked, Renewing}
use Rattle.page_tree.proofs.renew.renew_eight.Given as goal

abbrev pub invariant-loop-k : goal.invariant-loop-k
invariant-loop-k g l = record {
  renewing : Renewing g.P.PageHash.hashes l.ram l.nodes l.marks (l.start + 8 - l.k);
  count : (base : ℕ) → g.P.PageHash.count l.fn.hasher ≡ base + marked l.fn.marks (l.start + 8) (2 * length l.ram.dirty - (l.start + 8))
      → g.P.PageHash.count l.fn.hasher + l.k ≡ base + marked l.marks (l.start + 8 - l.k) (2 * length l.ram.dirty - (l.start + 8 - l.k));
}
