use Rattle.std.proofs.Common.{◌≡◌, ap, ◌∙◌, subst, List, ℕ}
use Rattle.std.specs.Prelude.{IfOk, IfSome}
use Rattle.avm_model.specs.Frame.{FrameData, frames_of}
use Rattle.avm_model.specs.Audit.{behind_first}
use Rattle.avm_model.specs.Machine.{State}
use Rattle.avm_model.specs.Reference.{IsFaultNumber, Made}
use Rattle.avm_model.specs.Rerun.{start}
use Rattle.avm_view.specs.Keeping.{IsAside}
use Rattle.avm_view.proofs.Openings.{behind_is}
use Rattle.avm_view.proofs.opening.replay_behind.Goals as goal

pub returns-clause-fault : goal.returns-clause-fault
returns-clause-fault c =
    let is = behind_is _ _ _ c.next-first.ensures.steps.0 in
    let all = ap (λ (b : List ℕ). behind_first (frames_of b)) c.new-frames.ensures in
    subst (λ (fs : List FrameData). IfOk c.replay_aside.result (λ x. (s : State) → c.args.replay.stand ≡ start {O = Made} s → IsFaultNumber s fs x.fault)) (is ∙ all) c.replay_aside.ensures.fault

pub returns-clause-aside : goal.returns-clause-aside
returns-clause-aside c =
    let is = behind_is _ _ _ c.next-first.ensures.steps.0 in
    let all = ap (λ (b : List ℕ). behind_first (frames_of b)) c.new-frames.ensures in
    subst (λ (fs : List FrameData). IfOk c.replay_aside.result (λ x. (s : State) → c.args.replay.stand ≡ start {O = Made} s → IfSome x.aside (λ a. IsAside s fs a.machine.state (frames_of a.frames)))) (is ∙ all) c.replay_aside.ensures.aside
