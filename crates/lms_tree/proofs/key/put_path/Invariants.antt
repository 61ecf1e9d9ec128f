use Rattle.std.proofs.Common.{◌≡◌, ◌+◌, ◌*◌, ◌-◌, ◌^◌, ◌<◌}
use Rattle.avm_model.specs.LmsTree.{path}
use Rattle.avm_num.specs.Room.{with_bytes, left}
use Rattle.lms_tree.specs.Key.{node_at}
use Rattle.lms_tree.proofs.key.put_path.Given as goal

abbrev pub invariant-loop-i : goal.invariant-loop-i
invariant-loop-i l =
    (l.r < 2 * 2 ^ l.h)
    × (left l.out + 32 * l.i ≡ left l.fn.out)
    × (with_bytes l.out (path (node_at l.nodes) (l.h - l.i) l.r) ≡ with_bytes l.fn.out (path (node_at l.nodes) l.h l.leaf))
