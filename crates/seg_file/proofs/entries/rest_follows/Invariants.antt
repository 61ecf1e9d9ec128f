use Rattle.std.proofs.Common.{◌≡◌, ◌≤◌, ◌<◌, ◌+◌, ◌^◌, ◌&&◌, length}
use Rattle.avm_model.specs.Frame.{frame_at, frames_of}
use Rattle.avm_num.specs.Walk.{behind_of, is_nil}
use Rattle.avm_model.specs.Entries.{follow}
use Rattle.seg_file.proofs.entries.rest_follows.Given as goal

abbrev pub invariant-loop-frame : goal.invariant-loop-frame
invariant-loop-frame l = record {
  same : (follow (l.number + 1) l.snaps (frames_of l.frames) && is_nil (behind_of frame_at l.frames)) ≡ (follow (l.fn.start + 1) l.fn.before (frames_of l.fn.frames) && is_nil (behind_of frame_at l.fn.frames));
  number : l.number < 2 ^ 62;
  few : l.snaps ≤ 64;
}

abbrev pub decreases-loop-frame : goal.decreases-loop-frame
decreases-loop-frame l = length (frames_of l.frames)
