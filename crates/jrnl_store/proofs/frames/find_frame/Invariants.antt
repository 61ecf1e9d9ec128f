use Rattle.std.proofs.Common.{◌≡◌, ◌++◌, List}
use Rattle.jrnl_store.specs.Items.{ItemData, frame_numbered}
use Rattle.jrnl_store.proofs.frames.find_frame.Given as goal

abbrev pub invariant-loop-item : goal.invariant-loop-item
invariant-loop-item l = record {
  can : (goal.iterator-loop-item).can_next l.left × (goal.iterator-loop-item).is_finite l.left;
  same : (rest : List ItemData) → frame_numbered l.number (l.fn.items ++ rest) ≡ frame_numbered l.number (l.left ++ rest);
}
