use Rattle.std.proofs.Common.{◌≡◌}
use Rattle.avm_model.specs.Frame.{frames_of}
use Rattle.avm_model.specs.Audit.{last_number}
use Rattle.auditor.proofs.checking.last_number.Given as goal

abbrev pub invariant-loop-frame : goal.invariant-loop-frame
invariant-loop-frame l = last_number l.last (frames_of l.frame-iterator) ≡ last_number 0 (frames_of l.fn.frames)
