-- Turns that make steps, by how the steps' effects end.
use Rattle.std.proofs.Common.{◌≡◌, ℕ, Bool, true, false, not, List, [], ◌∷◌, ◌++◌, Some, None, Result, Ok, Err, refl, sym, ap, subst, ◌∙◌}
use Rattle.std.specs.Prelude.{IfOk, is_some, ◌||◌, ◌&&◌}
use Rattle.std.proofs.lemmas.Bool.{and_parts}
use Rattle.avm_model.specs.Machine.{State, Step, asks, can_step, is_running}
use Rattle.avm_model.specs.Offer.{OfferClock, refused, taken}
use Rattle.avm_model.specs.Reference.{Made, made_by, step_of, take_of}
use Rattle.avm_model.proofs.ReferenceLaws.{step_is}
use Rattle.avm_outside.specs.Outlet.{Piece}
use Rattle.guest_machine.specs.declared.outs.Outs.{Outs}
use Rattle.guest_machine.proofs.RestLaws.{step_clock}
use Rattle.journal_model.specs.Journal.{JournalData}
use Rattle.journal_model.specs.Part.{Part, entry}
use Rattle.jrnl_store.specs.declared.fault.Stop.{Stop}
use Rattle.record_batch.specs.Batch.{BatchData, with_part}
use Rattle.record_batch.specs.Spelled.{numbered}
use Rattle.record_kept.specs.Tickets.{AreKeptOf}
use Rattle.record_kept.specs.declared.kept.KeptRow.{KeptRow}
use Rattle.avm_model.specs.Content.{FitsContent}
use Rattle.avm_model.specs.Memory.{RamState}
use Rattle.avm_model.specs.PageMarks.{MarksPages}
use Rattle.record_turn.proofs.Keeps.{beside, steps_before}
use Rattle.record_turn.specs.Keeping.{KeepsStep}
use Rattle.record_model.specs.Recording.{AnswerClock, Recording, StepOn, frame_of, given_at, made_parts, next_of, offer_content, with_input, with_step}
use Rattle.record_model.specs.Released.{Sender}
use Rattle.record_parts.specs.Ends.{EndsAs, Faults}
use Rattle.record_parts.specs.Outs.{outs_made}
use Rattle.record_parts.specs.Spell.{IsSpellTo}
use Rattle.record_parts.specs.declared.answers.Turn.{Turn}
use Rattle.record_parts.specs.declared.answers.Turn.TheVariants.{Ran}
use Rattle.record_parts.proofs.Acting.{as_err}
use Rattle.record_parts.proofs.Effects.{IsNext}
use Rattle.record_parts.proofs.Ends.{rec}
use Rattle.record_turn.specs.Leaves.{Acted, Finished, Spelled}

-- a machine that asks takes a clock value
takes : (s : State) (value : ℕ) → asks s ≡ true → s.devices.clock ≡ None → take_of s (given_at s (OfferClock value)) ≡ Some (taken s (OfferClock value))
unfolding take_of refused
takes s value a none = rw (a, none) refl

module _ {H : Type 0} (adding : Piece → H → H) (tearing : Piece → H → H → Type 0) (who : Sender) (rows after : List KeptRow) (ram mid after_ram : RamState) (marked : MarksPages ram mid) (rest : List Part) (u : State) (f : Faults) (old new : H) (next : JournalData) (flight : List Part) where
  -- ---- a spell

  spelled : (until : ℕ) (j : JournalData) (b : List Part) (s t : State) (o : Outs) (n : ℕ) (result : Result Turn Stop) (pages : List ℕ) → IsSpellTo until s t o n
      → EndsAs adding tearing who (with_step (rec j b t) pages (t, outs_made t o)) (rec next rest u) f old new result → flight ≡ b ++ made_parts (next_of (rec j b t)) t pages (outs_made t o) → IfOk result (λ turn. turn ≡ Ran n)
      → (AreKeptOf rows j → AreKeptOf after next) → KeepsStep j b t (outs_made t o) pages mid after_ram → Spelled adding tearing who until (rec j b s) (beside rows ram) (beside after after_ram) rest u f old new result next flight
  spelled until j b s t o n result pages sp h fl answer kept truth =
      let last : State = sp.spell.last in
      let one : EndsAs adding tearing who (with_step (rec j b last) pages (sp.spell.after, outs_made t o)) (rec next rest u) f old new result = subst (λ (x : State). EndsAs adding tearing who (with_step (rec j b last) pages (x, outs_made t o)) (rec next rest u) f old new result) (sym sp.after) h in
      let two : EndsAs adding tearing who (with_step (rec j b last) pages (sp.spell.after, sp.spell.outs)) (rec next rest u) f old new result = subst (λ (os : List Made). EndsAs adding tearing who (with_step (rec j b last) pages (sp.spell.after, os)) (rec next rest u) f old new result) (sym sp.outs) one in
      let three : flight ≡ b ++ made_parts (next_of (rec j b last)) sp.spell.after pages (outs_made t o) = subst (λ (x : State). flight ≡ b ++ made_parts (next_of (rec j b last)) x pages (outs_made t o)) (sym sp.after) fl in
      let four : flight ≡ b ++ made_parts (next_of (rec j b last)) sp.spell.after pages sp.spell.outs = subst (λ (os : List Made). flight ≡ b ++ made_parts (next_of (rec j b last)) sp.spell.after pages os) (sym sp.outs) three in
      record {
        quiet = sp.quiet;
        spell = sp.spell;
        acted = record {
          acts = record {
            at = last;
            moved_to = sp.spell.quiet;
            pages = pages;
            effect = with_step (rec j b last) pages (sp.spell.after, sp.spell.outs);
            effect_is = rw sp.spell.step refl;
            ends = two;
            answer = subst (λ (k : ℕ). IfOk result (λ turn. turn ≡ Ran k)) sp.steps answer;
          };
          in_flight = four;
          tickets = kept;
          keeps = record {
            outs = sp.spell.outs;
            step = sp.spell.step;
            keeps = subst (λ (os : List Made). KeepsStep j b sp.spell.after os pages ram after_ram) (sym sp.outs) (subst (λ (x : State). KeepsStep j b x (outs_made t o) pages ram after_ram) (sym sp.after) (steps_before j b t (outs_made t o) pages ram mid after_ram marked truth));
          };
        };
      }

  pub spelled_on : {T : Type 0} (x : T) (until : ℕ) (j : JournalData) (b : List Part) (s t : State) (o : Outs) (n : ℕ) → IsSpellTo until s t o n → Finished {T = T} adding tearing who (rec j b t) (outs_made t o) (beside rows mid) (beside after after_ram) rest u f old new (Ok x) next flight
      → Spelled adding tearing who until (rec j b s) (beside rows ram) (beside after after_ram) rest u f old new (Ok (Ran n)) next flight
  spelled_on x until j b s t o n sp h = spelled until j b s t o n (Ok (Ran n)) h.pages sp h.ends h.in_flight refl h.tickets h.keeps

  pub spelled_stopped : (until : ℕ) (j : JournalData) (b : List Part) (s t : State) (o : Outs) (n : ℕ) (stop : Stop) → IsSpellTo until s t o n → Finished {T = Unit {0}} adding tearing who (rec j b t) (outs_made t o) (beside rows mid) (beside after after_ram) rest u f old new (Err stop) next flight
      → Spelled adding tearing who until (rec j b s) (beside rows ram) (beside after after_ram) rest u f old new (Err stop) next flight
  spelled_stopped until j b s t o n stop sp h = spelled until j b s t o n (Err stop) h.pages sp (as_err (Unit {0}) Turn adding tearing who _ _ f old new stop h.ends) h.in_flight tt h.tickets h.keeps

  -- ---- one step

  stepped : (j : JournalData) (b : List Part) (s t : State) (os : List Made) (result : Result Turn Stop) (pages : List ℕ) → step_of s ≡ Some (t, os)
      → EndsAs adding tearing who (with_step (rec j b t) pages (t, os)) (rec next rest u) f old new result → flight ≡ b ++ made_parts (next_of (rec j b t)) t pages os → IfOk result (λ turn. turn ≡ Ran 1)
      → (AreKeptOf rows j → AreKeptOf after next) → KeepsStep j b t os pages mid after_ram → Acted adding tearing who 0 StepOn (rec j b s) (beside rows ram) (beside after after_ram) rest u f old new result next flight
  stepped j b s t os result pages st h fl answer kept truth = record {
    acts = record { at = s; moved_to = refl; pages = pages; effect = with_step (rec j b s) pages (t, os); effect_is = rw st refl; ends = h; answer = answer };
    in_flight = fl;
    tickets = kept;
    keeps = record { outs = os; step = st; keeps = steps_before j b t os pages ram mid after_ram marked truth };
  }

  pub stepped_on_to : {T : Type 0} (x : T) (j : JournalData) (b : List Part) (s t : State) (os : List Made) → step_of s ≡ Some (t, os) → Finished {T = T} adding tearing who (rec j b t) os (beside rows mid) (beside after after_ram) rest u f old new (Ok x) next flight
      → Acted adding tearing who 0 StepOn (rec j b s) (beside rows ram) (beside after after_ram) rest u f old new (Ok (Ran 1)) next flight
  stepped_on_to x j b s t os st h = stepped j b s t os (Ok (Ran 1)) h.pages st h.ends h.in_flight refl h.tickets h.keeps

  pub stepped_stopped : (j : JournalData) (b : List Part) (s t : State) (os : List Made) (stop : Stop) → step_of s ≡ Some (t, os) → Finished {T = Unit {0}} adding tearing who (rec j b t) os (beside rows mid) (beside after after_ram) rest u f old new (Err stop) next flight
      → Acted adding tearing who 0 StepOn (rec j b s) (beside rows ram) (beside after after_ram) rest u f old new (Err stop) next flight
  stepped_stopped j b s t os stop st h = stepped j b s t os (Err stop) h.pages st (as_err (Unit {0}) Turn adding tearing who _ _ f old new stop h.ends) h.in_flight tt h.tickets h.keeps

  -- ---- a clock value

  answered : (j : JournalData) (b c : BatchData) (s t : State) (os : List Made) (value : ℕ) (result : Result Turn Stop) (pages : List ℕ) → IsNext j b → asks s ≡ true → s.devices.clock ≡ None → c ≡ with_part b (numbered b.next (offer_content s.count (OfferClock value))) 1 → step_of (taken s (OfferClock value)) ≡ Some (t, os)
      → EndsAs adding tearing who (with_step (rec j c.parts t) pages (t, os)) (rec next rest u) f old new result → flight ≡ c.parts ++ made_parts (next_of (rec j c.parts t)) t pages os → IfOk result (λ turn. turn ≡ Ran 1)
      → (AreKeptOf rows j → AreKeptOf after next) → FitsContent (offer_content s.count (OfferClock value)) → KeepsStep j c.parts t os pages mid after_ram → Acted adding tearing who 0 (AnswerClock value) (rec j b.parts s) (beside rows ram) (beside after after_ram) rest u f old new result next flight
  answered j b c s t os value result pages is_next a none wrote st h fl answer kept fits truth =
      let written : Recording = with_input (rec j b.parts s) (OfferClock value) (taken s (OfferClock value)) in
      let e : c.parts ≡ written.batch = ap (λ (x : BatchData). x.parts) wrote ∙ ap (λ (n : ℕ). b.parts ++ entry (frame_of n (offer_content s.count (OfferClock value))) ∷ []) is_next in
      record {
        acts = record {
          at = s;
          moved_to = refl;
          pages = pages;
          effect = with_step written pages (t, os);
          effect_is = rw (takes s value a none, st) refl;
          ends = subst (λ (ps : List Part). EndsAs adding tearing who (with_step (rec j ps t) pages (t, os)) (rec next rest u) f old new result) e h;
          answer = answer;
        };
        in_flight = subst (λ (ps : List Part). flight ≡ ps ++ made_parts (next_of (rec j ps t)) t pages os) e fl;
        tickets = kept;
        keeps = (fits, record { outs = os; step = st; keeps = subst (λ (ps : List Part). KeepsStep j ps t os pages ram after_ram) e (steps_before j c.parts t os pages ram mid after_ram marked truth) });
      }

  pub answered_on : {T : Type 0} (x : T) (j : JournalData) (b c : BatchData) (s t : State) (os : List Made) (value : ℕ) → IsNext j b → asks s ≡ true → s.devices.clock ≡ None → c ≡ with_part b (numbered b.next (offer_content s.count (OfferClock value))) 1 → step_of (taken s (OfferClock value)) ≡ Some (t, os)
      → FitsContent (offer_content s.count (OfferClock value)) → Finished {T = T} adding tearing who (rec j c.parts t) os (beside rows mid) (beside after after_ram) rest u f old new (Ok x) next flight → Acted adding tearing who 0 (AnswerClock value) (rec j b.parts s) (beside rows ram) (beside after after_ram) rest u f old new (Ok (Ran 1)) next flight
  answered_on x j b c s t os value is_next a none wrote st fits h = answered j b c s t os value (Ok (Ran 1)) h.pages is_next a none wrote st h.ends h.in_flight refl h.tickets fits h.keeps

  pub answered_stopped : (j : JournalData) (b c : BatchData) (s t : State) (os : List Made) (value : ℕ) (stop : Stop) → IsNext j b → asks s ≡ true → s.devices.clock ≡ None → c ≡ with_part b (numbered b.next (offer_content s.count (OfferClock value))) 1 → step_of (taken s (OfferClock value)) ≡ Some (t, os)
      → FitsContent (offer_content s.count (OfferClock value)) → Finished {T = Unit {0}} adding tearing who (rec j c.parts t) os (beside rows mid) (beside after after_ram) rest u f old new (Err stop) next flight → Acted adding tearing who 0 (AnswerClock value) (rec j b.parts s) (beside rows ram) (beside after after_ram) rest u f old new (Err stop) next flight
  answered_stopped j b c s t os value stop is_next a none wrote st fits h = answered j b c s t os value (Err stop) h.pages is_next a none wrote st (as_err (Unit {0}) Turn adding tearing who _ _ f old new stop h.ends) h.in_flight tt h.tickets fits h.keeps

-- ---- a step that a pending clock lets be made

either : (r a c : Bool) → r ≡ true → c ≡ true → (r && (not a || c)) ≡ true
either r true c e f = rw (e, f) refl
either r false c e f = rw e refl

pub steps_by_clock : (s : State) → asks s ≡ true → is_some s.devices.clock ≡ true → step_of s ≡ None → ⊥
unfolding step_of
steps_by_clock s a c none =
    let r : is_running s.status ≡ true = (and_parts (is_running s.status) _ a).0 in
    let can : can_step s ≡ true = either (is_running s.status) (asks s) (is_some s.devices.clock) r c in
    let some : Some (made_by (Step s)) ≡ None = rw can at none in
    absurd cc

-- and the clock is used behind it
pub clock_gone : (s t : State) (os : List Made) → asks s ≡ true → step_of s ≡ Some (t, os) → t.devices.clock ≡ None
clock_gone s t os a st = step_clock s t (step_is s t os st).1 (λ _. a)
