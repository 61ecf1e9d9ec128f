-- A journal is honest exactly where its parts lead from its header's state to some state.
use Rattle.std.proofs.Common.{◌≡◌, ℕ, Bool, true, false, List, [], ◌∷◌, Some, None, refl, sym, ap, subst, ◌∙◌}
use Rattle.avm_model.specs.Machine.{State}
use Rattle.avm_model.specs.Frame.{FrameData}
use Rattle.avm_model.specs.Rerun.{Stand, start, after, Replays}
use Rattle.avm_model.specs.Reference.{Made, timed, entries_of}
use Rattle.avm_model.specs.Audit.{is_committed, behind_first}
use Rattle.honest_model.proofs.Logs.{has_first}
use Rattle.honest_model.specs.Honest.{IsFaultByRoot, IsFaultFrom, IsHonest, Leads, header_state, log_of}
use Rattle.journal_model.specs.Journal.{entries, JournalData, parts}
use Rattle.journal_model.specs.Part.{frames_in}

none_first : (first : ℕ) (s : State) (f : FrameData) (fs : List FrameData) (b : Bool) → is_committed s (f ∷ fs) ≡ b → IsFaultByRoot b first s (f ∷ fs) None → (is_committed s (f ∷ fs) ≡ true) × Replays timed s (entries_of fs)
none_first first s f fs true e h = (e, h)
none_first first s f fs false e h = absurd cc

pub honest_leads : (j : JournalData) (s : State) → IsHonest j → header_state j.header ≡ Some s → (t : State) × Leads s (parts j) t
unfolding entries
honest_leads j s h head =
    let q : Some h.fault.0 ≡ Some s = sym h.fault.1 ∙ head in
    let same : h.fault.0 ≡ s = cc in
    let fault : IsFaultFrom j.header.first s (frames_in (parts j)) None = subst (λ (x : State). IsFaultFrom j.header.first x (frames_in (parts j)) None) same h.fault.2 in
    let fault' : IsFaultFrom j.header.first s (h.some.0 ∷ h.some.1) None = subst (λ (fs : List FrameData). IsFaultFrom j.header.first s fs None) h.some.2 fault in
    let both = none_first j.header.first s h.some.0 h.some.1 (is_committed s (h.some.0 ∷ h.some.1)) refl fault' in
    let replays : Replays timed s (log_of (parts j)) = subst (λ (fs : List FrameData). Replays timed s (entries_of (behind_first fs))) (sym h.some.2) both.1 in
    let there : Stand State Made = after timed s (log_of (parts j)) in
    let is : start there.state ≡ there = ap (λ (os : List Made). record { state = there.state; pending = os }) (sym (h.whole s head)) in (
      there.state,
      record {
        committed = subst (λ (fs : List FrameData). is_committed s fs ≡ true) (sym h.some.2) both.0;
        stands = record { replays = replays; is = is };
      },
    )

from_first : (first : ℕ) (s : State) (fs : List FrameData) → is_committed s fs ≡ true → Replays timed s (entries_of (behind_first fs)) → IsFaultFrom first s fs None
from_first first s [] c r = refl
from_first first s (f ∷ fs) c r = subst (λ (b : Bool). IsFaultByRoot b first s (f ∷ fs) None) (sym c) r

pub leads_honest : (j : JournalData) (s t : State) → header_state j.header ≡ Some s → Leads s (parts j) t → IsHonest j
unfolding entries
leads_honest j s t head l =
    let f = has_first s (parts j) l.committed in
    record {
      some = (f.frame, f.frames, f.is);
      fault = (s, head, from_first j.header.first s (frames_in (parts j)) l.committed l.stands.replays);
      whole = λ x e. let q : Some x ≡ Some s = sym e ∙ head in let same : s ≡ x = cc in subst (λ (y : State). (after timed y (log_of (parts j))).pending ≡ []) same (sym (ap (λ (k : Stand State Made). k.pending) l.stands.is));
    }
