use Rattle.std.proofs.Common.{◌≡◌, ◌*◌, ◌-◌, drop}
use Rattle.avm_model.specs.LmsTree.{climb}
use Rattle.lms_tree.proofs.verifying.root_above.Given as goal

abbrev pub invariant-loop-i : goal.invariant-loop-i
invariant-loop-i l =
    climb l.fn.id (l.h - l.i) l.r l.node.0 (drop (32 * l.i) l.fn.beyond) ≡ climb l.fn.id l.h l.fn.r l.fn.node.0 l.fn.beyond
