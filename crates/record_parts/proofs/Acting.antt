-- How acts end, as turns: it is enough to say how their effects end.
use Rattle.std.proofs.Common.{◌≡◌, ℕ, Bool, true, false, not, List, [], ◌∷◌, ◌++◌, Option, Some, None, Result, Err, refl, sym, ap, subst}
use Rattle.std.specs.Prelude.{IfOk, ◌||◌, ◌&&◌}
use Rattle.std.proofs.lemmas.Bool.{and_parts}
use Rattle.avm_model.specs.Device.{row_of}
use Rattle.avm_model.specs.Input.{Clock, Refusal, Take}
use Rattle.avm_model.specs.Machine.{State, Step, asks, can_step, is_running}
use Rattle.avm_model.specs.Offer.{Offer, OfferClock, refuse_packet, refused, taken}
use Rattle.avm_model.specs.Reference.{Made, made_by, step_of, take_of}
use Rattle.avm_model.specs.declared.NotTaken.{NotTaken}
use Rattle.avm_model.proofs.ReferenceLaws.{step_is}
use Rattle.avm_outside.specs.Outlet.{Piece}
use Rattle.guest_machine.proofs.RestLaws.{step_clock}
use Rattle.guest_machine.specs.declared.outs.Outs.{Outs}
use Rattle.journal_model.specs.Journal.{JournalData}
use Rattle.journal_model.specs.Part.{Part}
use Rattle.record_batch.specs.Batch.{BatchData, with_part}
use Rattle.record_batch.specs.Spelled.{numbered}
use Rattle.record_model.specs.Recording.{AnswerClock, Effect, Recording, SendAgain, StepOn, TakeIn, dropped_for, given_at, offer_content, sent_again, taken_in, with_input, with_step}
use Rattle.record_model.specs.Released.{Sender, again, again_to, outstanding, repeated_from, resend_refusal}
use Rattle.record_parts.proofs.Effects.{IsNext}
use Rattle.record_parts.proofs.Ends.{rec, Opening}
use Rattle.record_parts.specs.Ends.{Acts, EndsAs, Faults, RunsOn}
use Rattle.record_parts.specs.Outs.{outs_made}
use Rattle.record_parts.specs.Spell.{IsSpellTo}
use Rattle.jrnl_store.specs.declared.fault.Stop.{Stop}
use Rattle.jrnl_store.specs.declared.fault.Stop.TheVariants.{LeavesSpent, Full, DiskFault, OutletFault, FeedFault}
use Rattle.record_parts.specs.declared.answers.Turn.{Turn}
use Rattle.record_parts.specs.declared.answers.Turn.TheVariants.{Ran, Took, Resent, Dropped}

-- a stop ends alike whatever is answered where there is none
pub as_err : {H : Type 0} (T U : Type 0) (adding : Piece → H → H) (tearing : Piece → H → H → Type 0) (who : Sender) (e : Effect) (r : Recording) (f : Faults) (old new : H) (stop : Stop) → EndsAs {T = T} adding tearing who e r f old new (Err stop) → EndsAs {T = U} adding tearing who e r f old new (Err stop)
as_err T U adding tearing who e r f old new LeavesSpent h = h
as_err T U adding tearing who e r f old new Full h = h
as_err T U adding tearing who e r f old new DiskFault h = h
as_err T U adding tearing who e r f old new OutletFault h = h
as_err T U adding tearing who e r f old new FeedFault h = absurd h

-- ---- a spell of steps

pub runs_on : {H : Type 0} (adding : Piece → H → H) (tearing : Piece → H → H → Type 0) (who : Sender) (until : ℕ) (j : JournalData) (b : List Part) (s t : State) (o : Outs) (n : ℕ) (pages : List ℕ) (r : Recording) (f : Faults) (old new : H) (result : Result Turn Stop)
    → IsSpellTo until s t o n → EndsAs adding tearing who (with_step (rec j b t) pages (t, outs_made t o)) r f old new result → IfOk result (λ turn. turn ≡ Ran n) → RunsOn adding tearing who until (rec j b s) r f old new result
runs_on {H} adding tearing who until j b s t o n pages r f old new result sp h answer =
    let last : State = sp.spell.last in
    let one : EndsAs adding tearing who (with_step (rec j b last) pages (sp.spell.after, outs_made t o)) r f old new result = subst (λ (x : State). EndsAs adding tearing who (with_step (rec j b last) pages (x, outs_made t o)) r f old new result) (sym sp.after) h in
    let two : EndsAs adding tearing who (with_step (rec j b last) pages (sp.spell.after, sp.spell.outs)) r f old new result = subst (λ (os : List Made). EndsAs adding tearing who (with_step (rec j b last) pages (sp.spell.after, os)) r f old new result) (sym sp.outs) one in
    record {
      quiet = sp.quiet;
      spell = sp.spell;
      acts = record {
        at = last;
        moved_to = sp.spell.quiet;
        pages = pages;
        effect = with_step (rec j b last) pages (sp.spell.after, sp.spell.outs);
        effect_is = rw sp.spell.step refl;
        ends = two;
        answer = subst (λ (k : ℕ). IfOk result (λ turn. turn ≡ Ran k)) sp.steps answer;
      };
    }

-- one step, as a turn that uses a pending clock makes it
pub acts_step : {H : Type 0} (adding : Piece → H → H) (tearing : Piece → H → H → Type 0) (who : Sender) (j : JournalData) (b : List Part) (s t : State) (os : List Made) (pages : List ℕ) (r : Recording) (f : Faults) (old new : H) (result : Result Turn Stop)
    → step_of s ≡ Some (t, os) → EndsAs adding tearing who (with_step (rec j b s) pages (t, os)) r f old new result → IfOk result (λ turn. turn ≡ Ran 1) → Acts adding tearing who 0 StepOn (rec j b s) r f old new result
acts_step adding tearing who j b s t os pages r f old new result st h answer =
    record { at = s; moved_to = refl; pages = pages; effect = with_step (rec j b s) pages (t, os); effect_is = rw st refl; ends = h; answer = answer }

-- ---- a clock value

pub takes_clock : (s : State) (value : ℕ) → asks s ≡ true → s.devices.clock ≡ None → Refusal s (Clock value) ≡ None
takes_clock s value a none = rw (a, none) refl

take_clock : (s : State) (value : ℕ) → asks s ≡ true → s.devices.clock ≡ None → take_of s (given_at s (OfferClock value)) ≡ Some (Take s (Clock value))
unfolding take_of refused taken
take_clock s value a none = rw (a, none) refl

pub clock_taken : (s : State) (value : ℕ) → taken s (OfferClock value) ≡ Take s (Clock value)
unfolding taken
clock_taken s value = refl

-- a machine that asked can then make a step
pub steps_then : (s : State) (value : ℕ) → asks s ≡ true → step_of (Take s (Clock value)) ≡ None → ⊥
unfolding step_of
steps_then s value a none =
    let r : is_running s.status ≡ true = (and_parts (is_running s.status) _ a).0 in
    let can : can_step (Take s (Clock value)) ≡ true = both (is_running s.status) (asks (Take s (Clock value))) r in
    let some : Some (made_by (Step (Take s (Clock value)))) ≡ None = rw can at none in
    absurd cc
  where
    both : (r a : Bool) → r ≡ true → (r && (not a || true)) ≡ true
    both r true e = rw e refl
    both r false e = rw e refl

-- and the clock is used behind it
pub clock_used : (s t : State) (os : List Made) (value : ℕ) → asks s ≡ true → step_of (Take s (Clock value)) ≡ Some (t, os) → t.devices.clock ≡ None
clock_used s t os value a st = step_clock (Take s (Clock value)) t (step_is (Take s (Clock value)) t os st).1 (λ _. a)

pub acts_clock : {H : Type 0} (adding : Piece → H → H) (tearing : Piece → H → H → Type 0) (who : Sender) (j : JournalData) (b : BatchData) (s t : State) (os : List Made) (value : ℕ) (pages : List ℕ) (r : Recording) (f : Faults) (old new : H) (result : Result Turn Stop)
    → IsNext j b → asks s ≡ true → s.devices.clock ≡ None → step_of (Take s (Clock value)) ≡ Some (t, os)
    → EndsAs adding tearing who (with_step (rec j (with_part b (numbered b.next (offer_content s.count (OfferClock value))) 1).parts (Take s (Clock value))) pages (t, os)) r f old new result → IfOk result (λ turn. turn ≡ Ran 1) → Acts adding tearing who 0 (AnswerClock value) (rec j b.parts s) r f old new result
acts_clock {H} adding tearing who j b s t os value pages r f old new result next a none st h answer =
    let tk = take_clock s value a none in
    let e : with_input (rec j b.parts s) (OfferClock value) (Take s (Clock value)) ≡ rec j (with_part b (numbered b.next (offer_content s.count (OfferClock value))) 1).parts (Take s (Clock value)) =
    ap (λ (n : ℕ). rec j (b.parts ++ numbered n (offer_content s.count (OfferClock value)) ∷ []) (Take s (Clock value))) (sym next) in
    let h' = subst (λ (x : Recording). EndsAs adding tearing who (with_step x pages (t, os)) r f old new result) (sym e) h in
    record { at = s; moved_to = refl; pages = pages; effect = with_step (with_input (rec j b.parts s) (OfferClock value) (Take s (Clock value))) pages (t, os); effect_is = rw (tk, st) refl; ends = h'; answer = answer }

-- ---- what comes in

pub acts_taken : {H : Type 0} (adding : Piece → H → H) (tearing : Piece → H → H → Type 0) (who : Sender) (j : JournalData) (b : List Part) (s : State) (o : Offer) (r : Recording) (f : Faults) (old new : H) (result : Result Turn Stop)
    → refuse_packet s (Some o) ≡ None → EndsAs adding tearing who (taken_in (rec j b s) o) r f old new result → IfOk result (λ turn. turn ≡ Took) → Acts adding tearing who 0 (TakeIn (Some o)) (rec j b s) r f old new result
acts_taken adding tearing who j b s o r f old new result none h answer =
    record { at = s; moved_to = refl; pages = []; effect = taken_in (rec j b s) o; effect_is = rw none refl; ends = h; answer = answer }

pub acts_dropped : {H : Type 0} (adding : Piece → H → H) (tearing : Piece → H → H → Type 0) (who : Sender) (j : JournalData) (b : List Part) (s : State) (o : Option Offer) (why : NotTaken) (r : Recording) (f : Faults) (old new : H) (result : Result Turn Stop)
    → refuse_packet s o ≡ Some why → EndsAs adding tearing who (dropped_for who (rec j b s) o why) r f old new result → IfOk result (λ turn. turn ≡ Dropped why) → Acts adding tearing who 0 (TakeIn o) (rec j b s) r f old new result
acts_dropped adding tearing who j b s o why r f old new result some h answer =
    record { at = s; moved_to = refl; pages = []; effect = dropped_for who (rec j b s) o why; effect_is = rw some refl; ends = h; answer = answer }

pub drop_opening : (who : Sender) (j : JournalData) (b : List Part) (s : State) (o : Option Offer) (why : NotTaken) (ps : List Piece) → again_to who j (repeated_from why o) ≡ ps → Opening (dropped_for who (rec j b s) o why) (rec j b s) ps
drop_opening who j b s o why ps e = record { closes = refl; recording = refl; again = e }

-- ---- sending again

abbrev pub again_answer : Option NotTaken → Turn
again_answer None = Resent
again_answer (Some why) = Dropped why

pub acts_again : {H : Type 0} (adding : Piece → H → H) (tearing : Piece → H → H → Type 0) (who : Sender) (j : JournalData) (b : List Part) (s : State) (peer : ℕ) (r : Recording) (f : Faults) (old new : H) (result : Result Turn Stop)
    → EndsAs adding tearing who (sent_again who (rec j b s) peer) r f old new result → IfOk result (λ turn. turn ≡ again_answer (resend_refusal (row_of s.devices.peers peer) (outstanding j s peer))) → Acts adding tearing who 0 (SendAgain peer) (rec j b s) r f old new result
acts_again adding tearing who j b s peer r f old new result h answer =
    record { at = s; moved_to = refl; pages = []; effect = sent_again who (rec j b s) peer; effect_is = refl; ends = h; answer = same (resend_refusal (row_of s.devices.peers peer) (outstanding j s peer)) result answer }
  where
    same : (w : Option NotTaken) (x : Result Turn Stop) → IfOk x (λ turn. turn ≡ again_answer w) → IfOk x (λ turn. turn ≡ Rattle.record_parts.specs.Ends.turn_of (Rattle.record_model.specs.Turn.answer_for 0 (SendAgain peer) w))
    same None x h = h
    same (Some why) x h = h

pub again_opening : (who : Sender) (j : JournalData) (b : List Part) (s : State) (peer : ℕ) (ps : List Piece) → again who (outstanding j s peer) ≡ ps → Opening (sent_again who (rec j b s) peer) (rec j b s) ps
again_opening who j b s peer ps e = record { closes = refl; recording = refl; again = e }
