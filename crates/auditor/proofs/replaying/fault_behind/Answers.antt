use Rattle.std.proofs.Common.{ap, ◌∙◌, subst, List, ℕ}
use Rattle.avm_model.specs.Frame.{FrameData, frames_of}
use Rattle.avm_model.specs.Audit.{behind_first}
use Rattle.avm_model.specs.Reference.{IsFaultNumber}
use Rattle.auditor.proofs.Behind.{behind_is}
use Rattle.auditor.proofs.replaying.fault_behind.Goals as goal

pub returns : goal.returns
returns c = λ s e.
    let is = behind_is _ _ _ c.next-first.ensures.steps.0 in
    let all = ap (λ (b : List ℕ). behind_first (frames_of b)) c.new-frames.ensures in
    subst (λ (fs : List FrameData). IsFaultNumber s fs c.fault_in.result) (is ∙ all) (c.fault_in.ensures s e)
