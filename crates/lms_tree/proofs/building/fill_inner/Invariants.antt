use Rattle.std.proofs.Common.{◌≡◌, ℕ, ◌+◌, ◌*◌, ◌≤◌, ◌<◌}
use Rattle.avm_model.specs.LmsTree.{inner}
use Rattle.lms_tree.specs.Key.{node_at}
use Rattle.lms_tree.proofs.building.fill_inner.Given as goal

abbrev pub invariant-loop-i : goal.invariant-loop-i
invariant-loop-i l =
    ((r : ℕ) → l.count ≤ r → node_at l.nodes r ≡ node_at l.fn.nodes r)
    × ((r : ℕ) → l.count < r + l.i → r < l.count → node_at l.nodes r ≡ inner l.fn.id r (node_at l.nodes (2 * r)) (node_at l.nodes (2 * r + 1)))
