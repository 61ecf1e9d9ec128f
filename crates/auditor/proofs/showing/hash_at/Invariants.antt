use Rattle.std.proofs.Common.{◌≡◌}
use Rattle.avm_model.specs.Frame.{frames_of}
use Rattle.avm_model.specs.Marks.{hash_in}
use Rattle.auditor.proofs.showing.hash_at.Given as goal

abbrev pub invariant-loop-frame : goal.invariant-loop-frame
invariant-loop-frame l = hash_in l.seq l.hash.0 (frames_of l.frame-iterator) ≡ hash_in l.seq l.fn.before.0 (frames_of l.fn.frames)
