use Rattle.avm_model.specs.Frame.{frames_of}
use Rattle.sample_judge.proofs.Drafting.{IsGoing}
use Rattle.sample_judge.proofs.cheating.cheated.Given as goal

abbrev pub invariant-loop-frame : goal.invariant-loop-frame
invariant-loop-frame l = IsGoing l.before.0 (frames_of l.fn.frames) (frames_of l.frame-iterator) l.found l.draft
