-- A turn keeps the machine's own id.
use Rattle.std.proofs.Common.{◌≡◌, ℕ, zero, suc, Bool, true, false, List, [], ◌∷◌, Option, None, Some, refl, sym, ap, subst, ◌∙◌}
use Rattle.std.specs.Option.{option_map}
use Rattle.avm_num.specs.Bytes.{◌>>=◌}
use Rattle.avm_model.specs.Machine.{State}
use Rattle.avm_model.specs.Offer.{Offer, OfferClock, refuse_packet, refused, taken}
use Rattle.avm_model.specs.Reference.{Given, Made, step_of, take_of, timed, unless}
use Rattle.avm_model.specs.Rerun.{moved, moved_by}
use Rattle.avm_model.specs.declared.NotTaken.{NotTaken}
use Rattle.journal_model.specs.Saving.{CommitRefusal, commit_refusal}
use Rattle.record_laws.proofs.Fronts.{SameFront, front_on, front_same, step_front, taken_front}
use Rattle.record_laws.specs.Turns.{IsTurn}
use Rattle.record_model.specs.Recorded.{Run}
use Rattle.record_model.specs.Recording.{Act, AnswerClock, Effect, Recording, SendAgain, StepOn, TakeIn, effect, finished, given_at, stepped_on, take_in, taken_in, with_input, with_step}
use Rattle.record_model.specs.Released.{Sender}

moved_front : (k : ℕ) (s t : State) → moved timed k s ≡ Some t → SameFront s t
moved_front zero s t e = let same : s ≡ t = cc in subst (λ (x : State). SameFront s x) same (front_same s)
moved_front (suc k) s t e = go (λ u. moved_front k u t) (step_of s) refl e
  where
    go : ((u : State) → moved timed k u ≡ Some t → SameFront u t) → (r : Option (State × List Made)) → step_of s ≡ r → moved_by r (moved timed k) ≡ Some t → SameFront s t
    go ih None p h = absurd cc
    go ih (Some (u, [])) p h = front_on s u t (step_front s u [] p) (ih u h)
    go ih (Some (u, o ∷ os)) p h = absurd cc

step_effect : (r : Recording) (pages : List ℕ) (e : Effect) → stepped_on r pages ≡ Some e → SameFront r.machine e.recording.machine
step_effect r pages e h = go (step_of r.machine) refl h
  where
    go : (o : Option (State × List Made)) → step_of r.machine ≡ o → option_map (with_step r pages) o ≡ Some e → SameFront r.machine e.recording.machine
    go None p h = absurd cc
    go (Some (t, os)) p h = let same : with_step r pages (t, os) ≡ e = cc in subst (λ (x : Effect). SameFront r.machine x.recording.machine) same (step_front r.machine t os p)

take_front : (s t : State) (i : Given) → take_of s i ≡ Some t → SameFront s t
unfolding take_of
take_front s t i e = go (refused s i.offer) e
  where
    go : (w : Option NotTaken) → unless w (taken s i.offer) ≡ Some t → SameFront s t
    go None q = let same : taken s i.offer ≡ t = cc in subst (λ (x : State). SameFront s x) same (taken_front s i.offer)
    go (Some why) q = absurd cc

effect_front : (who : Sender) (pages : List ℕ) (r : Recording) (act : Act) (e : Effect) → effect who pages r act ≡ Some e → SameFront r.machine e.recording.machine
effect_front who pages r StepOn e h = step_effect r pages e h
effect_front who pages r (AnswerClock value) e h = go (take_of r.machine (given_at r.machine (OfferClock value))) refl h
  where
    go : (o : Option State) → take_of r.machine (given_at r.machine (OfferClock value)) ≡ o → (o >>= λ s. stepped_on (with_input r (OfferClock value) s) pages) ≡ Some e → SameFront r.machine e.recording.machine
    go None p h = absurd cc
    go (Some s) p h = front_on r.machine s e.recording.machine (take_front r.machine s (given_at r.machine (OfferClock value)) p) (step_effect (with_input r (OfferClock value) s) pages e h)
effect_front who pages r (TakeIn offer) e h = go offer (refuse_packet r.machine offer) h
  where
    go : (o : Option Offer) (why : Option NotTaken) → take_in who r o why ≡ Some e → SameFront r.machine e.recording.machine
    go o (Some why) h = let same : r ≡ e.recording = cc in subst (λ (x : Recording). SameFront r.machine x.machine) same (front_same r.machine)
    go None None h = absurd cc
    go (Some o) None h = let same : taken_in r o ≡ e = cc in subst (λ (x : Effect). SameFront r.machine x.recording.machine) same (taken_front r.machine o)
effect_front who pages r (SendAgain peer) e h = let same : r ≡ e.recording = cc in subst (λ (x : Recording). SameFront r.machine x.machine) same (front_same r.machine)

finished_same : (who : Sender) (e : Effect) → (finished who e).recording.machine ≡ e.recording.machine
finished_same who e = go e.closes refl (commit_refusal e.recording.journal e.recording.batch) refl
  where
    go : (b : Bool) → e.closes ≡ b → (o : Option CommitRefusal) → commit_refusal e.recording.journal e.recording.batch ≡ o → (finished who e).recording.machine ≡ e.recording.machine
    go true c (Some w) q = rw (c, q) refl
    go true c None q = rw (c, q) refl
    go false c o q = rw c refl

pub turn_own : (who : Sender) (r u : Run) → IsTurn who r u → u.recording.machine.devices.own ≡ r.recording.machine.devices.own
turn_own who r u t = go (effect who t.pages (record r.recording { machine = t.at }) t.act) refl t.of_script.done_is
  where
    go : (o : Option Effect) → effect who t.pages (record r.recording { machine = t.at }) t.act ≡ o → option_map (finished who) o ≡ Some t.done → u.recording.machine.devices.own ≡ r.recording.machine.devices.own
    go None p h = absurd cc
    go (Some e) p h =
        let done : finished who e ≡ t.done = cc in
        let machine : u.recording.machine ≡ e.recording.machine = ap (λ (x : Run). x.recording.machine) t.behind ∙ ap (λ x. x.recording.machine) (sym done) ∙ finished_same who e in
        let front = front_on r.recording.machine t.at e.recording.machine (moved_front t.plan.quiet r.recording.machine t.at t.of_script.quiet) (effect_front who t.pages (record r.recording { machine = t.at }) t.act e p) in
        ap (λ (x : State). x.devices.own) machine ∙ front.own
