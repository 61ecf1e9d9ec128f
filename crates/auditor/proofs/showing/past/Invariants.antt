use Rattle.std.proofs.Common.{◌≡◌, List, length, All}
use Rattle.avm_model.specs.Frame.{FrameData, FitsFrame}
use Rattle.avm_model.specs.Frame.{frames_of}
use Rattle.auditor.proofs.Walking.{Walking, spell}
use Rattle.auditor.proofs.showing.past.Given as goal

abbrev pub invariant-loop-frame : goal.invariant-loop-frame
invariant-loop-frame l = (fs : List FrameData) → All FitsFrame fs → l.fn.bytes ≡ spell fs → Walking l.number fs l.frames

abbrev pub decreases-loop-frame : goal.decreases-loop-frame
decreases-loop-frame l = length (frames_of l.frames)
