use Rattle.std.proofs.Common.{◌≡◌}
use Rattle.avm_model.specs.Frame.{frames_of}
use Rattle.avm_model.specs.Chain.{top_of}
use Rattle.log_chain.proofs.chain.Given as goal

abbrev pub invariant-loop-frame : goal.invariant-loop-frame
invariant-loop-frame l = top_of l.top.0 (frames_of l.frame-iterator) ≡ top_of l.fn.h.0 (frames_of l.fn.frames)
