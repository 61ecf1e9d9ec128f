use Rattle.std.proofs.Common.{◌≡◌, ◌≤◌, ◌^◌, length}
use Rattle.avm_model.specs.Frame.{frames_of}
use Rattle.auditor.specs.Tests.{run_on}
use Rattle.auditor.proofs.checking.are_frames.Given as goal

abbrev pub invariant-loop-frame : goal.invariant-loop-frame
invariant-loop-frame l = (run_on l.number l.frames ≡ run_on l.fn.start l.fn.bytes) × (l.number ≤ 2 ^ 62)

abbrev pub decreases-loop-frame : goal.decreases-loop-frame
decreases-loop-frame l = length (frames_of l.frames)
