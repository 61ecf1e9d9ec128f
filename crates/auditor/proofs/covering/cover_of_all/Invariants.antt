use Rattle.avm_model.specs.Frame.{frames_of}
use Rattle.auditor.proofs.Covers.{Passing}
use Rattle.auditor.proofs.covering.cover_of_all.Given as goal

abbrev pub invariant-loop-frame : goal.invariant-loop-frame
invariant-loop-frame l = Passing l.auths l.before.0 (frames_of l.frames) l.hash.0 l.best l.wanted (frames_of l.frame-iterator)
