use Rattle.std.proofs.Common.{◌≡◌, ℕ, ◌+◌, ◌-◌, ◌≤◌, ◌<◌}
use Rattle.avm_model.specs.LmsOts.{ots_public}
use Rattle.avm_model.specs.LmsTree.{leaf}
use Rattle.lms_tree.specs.Key.{node_at}
use Rattle.lms_tree.proofs.building.fill_leaves.Given as goal

abbrev pub invariant-loop-q : goal.invariant-loop-q
invariant-loop-q l = (r : ℕ) → l.count ≤ r → r < l.count + l.q → node_at l.nodes r ≡ leaf l.fn.id r (ots_public l.ots l.fn.id (r - l.count) l.fn.seed.0)
