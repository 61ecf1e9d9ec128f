-- What an act writes has spellings.
use Rattle.std.proofs.Common.{◌≡◌, ℕ, List, Some, None, sym, ap, subst, ◌∙◌}
use Rattle.avm_model.specs.Machine.{State}
use Rattle.avm_model.specs.Memory.{RamState}
use Rattle.avm_model.specs.Reference.{Made, step_of}
use Rattle.record_model.specs.Recording.{Act, AnswerClock, Effect, Recording, SendAgain, StepOn, TakeIn}
use Rattle.record_model.specs.Standing.{FitAll, FitsAct}
use Rattle.record_turn.specs.Keeping.{KeepsAct}

one_step : (s t : State) (os : List Made) → step_of s ≡ Some (t, os) → FitAll os → (u : State) (ps : List Made) → step_of s ≡ Some (u, ps) → FitAll ps
one_step s t os st fits u ps other =
    let q : Some (t, os) ≡ Some (u, ps) = sym st ∙ other in
    let one : (t, os) ≡ (u, ps) = cc in
    subst FitAll (ap (λ (x : State × List Made). x.1) one) fits

pub act_fits : (r : Recording) (act : Act) (pages : List ℕ) (e : Effect) (ram after : RamState) → KeepsAct act r e pages ram after → e.dropped ≡ None → FitsAct r act
act_fits r StepOn pages e ram after k d = one_step r.machine e.recording.machine k.outs k.step k.keeps.fits
act_fits r (AnswerClock value) pages e ram after k d = (k.0, one_step _ e.recording.machine k.1.outs k.1.step k.1.keeps.fits)
act_fits r (TakeIn offer) pages e ram after k d = k.0 d
act_fits r (SendAgain peer) pages e ram after k d = tt
