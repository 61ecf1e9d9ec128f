use Rattle.std.proofs.Common.{◌≡◌}
use Rattle.avm_model.specs.Frame.{frames_of}
use Rattle.sample_lines.specs.Judging.{has_out}
use Rattle.sample_judge.proofs.cheating.has_out.Given as goal

abbrev pub invariant-loop-frame : goal.invariant-loop-frame
invariant-loop-frame l = has_out (frames_of l.frame-iterator) ≡ has_out (frames_of l.fn.frames)
