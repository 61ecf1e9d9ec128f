use Rattle.std.proofs.Common.{arith, ◌≡◌, ◌∙◌, ◌+◌, ℕ, List, ◌∷◌, Some, refl, eq-eqb}
use Rattle.avm_model.specs.Frame.{FrameData, frame_at, frames_of}
use Rattle.log_entry.proofs.FrameLaws.{frames_behind_some}
use Rattle.seg_file.proofs.Following.{frame_seq}
use Rattle.auditor.specs.Tests.{run_on}
use Rattle.auditor.proofs.checking.are_frames.Goals as goal

-- a frame with the next number goes on
goes_on : (n : ℕ) (f : FrameData) (old new : List ℕ) → frames_of old ≡ f ∷ frames_of new → frame_at old ≡ Some (f, new) → f.seq ≡ n → run_on (n + 1) new ≡ run_on n old
goes_on n f old new a b e = rw (a, frames_behind_some old (f, new) b, eq-eqb f.seq n e) refl

pub loop-frame-preserved : goal.loop-frame-preserved
loop-frame-preserved c =
    let step = c.in-Some.ensures.steps in
    let bound = frame_seq _ _ step.1 in
    (goes_on _ _ _ _ step.0 step.1 c.if-frame-number.false ∙ c.loop-frame.invariant.0, omega arith)
