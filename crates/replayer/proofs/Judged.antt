-- What is judged of a content is judged of its frame.
use Rattle.std.proofs.Common.{◌≡◌, List, [], ◌∷◌, ◌++◌, Some, None, sym, ap, subst}
use Rattle.avm_model.specs.Content.{ContentData, content_at}
use Rattle.avm_model.specs.Frame.{FrameData}
use Rattle.avm_model.specs.Machine.{State}
use Rattle.avm_model.specs.Timed.{Entry}
use Rattle.avm_model.specs.Rerun.{Stand, Stands, Replays}
use Rattle.avm_model.specs.Judge.{judge}
use Rattle.avm_model.specs.Reference.{Given, Made, timed, entry_in, entry_of_content, entry_of_frame}
use Rattle.avm_model.proofs.ReferenceLaws.{is_timed}
use Rattle.avm_model.proofs.ReplayTheorems.{goes_on, faults}

frame_entry : (f : FrameData) (x : ContentData) → Some x ≡ content_at f.kind f.content → entry_of_content x ≡ entry_of_frame f
unfolding entry_of_frame
frame_entry f x e = ap entry_in e

pub frame_goes : (s : State) (es : List (Entry Given Made)) (j k : Stand State Made) (f : FrameData) (x : ContentData) → Some x ≡ content_at f.kind f.content
    → Stands timed s es j → judge timed j (entry_of_content x) ≡ Some k → Stands timed s (es ++ entry_of_frame f ∷ []) k
frame_goes s es j k f x e h g =
    subst (λ (y : Entry Given Made). Stands timed s (es ++ y ∷ []) k) (frame_entry f x e) (goes_on timed is_timed s es j k (entry_of_content x) h g)

pub frame_faults : (s : State) (es : List (Entry Given Made)) (j : Stand State Made) (f : FrameData) (x : ContentData) → Some x ≡ content_at f.kind f.content
    → Stands timed s es j → judge timed j (entry_of_content x) ≡ None → Replays timed s (es ++ entry_of_frame f ∷ []) → ⊥
frame_faults s es j f x e h g r =
    faults timed is_timed s es j (entry_of_content x) h g
    (subst (λ (y : Entry Given Made). Replays timed s (es ++ y ∷ [])) (sym (frame_entry f x e)) r)
