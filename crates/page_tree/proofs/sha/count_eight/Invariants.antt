use Rattle.std.proofs.Common.{◌≡◌, ◌+◌}
use Rattle.page_tree.proofs.sha.count_eight.Given as goal

abbrev pub invariant-loop-k : goal.invariant-loop-k
invariant-loop-k g l = l.steps ≡ l.fn.steps + l._k
