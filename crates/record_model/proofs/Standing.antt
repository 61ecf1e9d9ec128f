-- What a recorder does keeps where it stands.
use Rattle.std.proofs.Common.{◌≡◌, ℕ, ◌+◌, eq-eqb, List, [], ◌∷◌, ◌++◌, map, Option, Some, None, refl, sym, ap, subst, ◌∙◌, append_assoc}
use Rattle.std.proofs.lemmas.List.{append-nil}
use Rattle.std.specs.Option.{option_map}
use Rattle.avm_num.specs.Bytes.{◌>>=◌}
use Rattle.avm_model.specs.Machine.{State}
use Rattle.avm_model.specs.Content.{FitsContent}
use Rattle.avm_model.specs.Offer.{Offer, OfferClock, refused, taken, refuse_packet}
use Rattle.avm_model.specs.Timed.{Entry, given, made, takes}
use Rattle.avm_model.specs.Rerun.{Stands, start, moved}
use Rattle.avm_model.specs.Reference.{Given, Made, timed, step_of, take_of, unless, entries_of}
use Rattle.avm_model.proofs.ReferenceLaws.{is_timed}
use Rattle.avm_model.proofs.ReplayRecording.{step_recorded, take_recorded}
use Rattle.avm_model.specs.declared.NotTaken.{NotTaken}
use Rattle.honest_model.proofs.Joins.{moved_on}
use Rattle.honest_model.proofs.Logs.{committed-append, has_first, log-append, record-parts}
use Rattle.honest_model.specs.Honest.{Leads, log_of}
use Rattle.journal_model.specs.Journal.{parts, with_record}
use Rattle.journal_model.specs.Part.{Part, entry, frames_in}
use Rattle.record_model.proofs.Made.{made_log, offer_log}
use Rattle.record_model.specs.Recording.{Act, AnswerClock, Effect, Recording, SendAgain, StepOn, TakeIn, dropped_for, effect, frame_of, given_at, made_parts, next_of, offer_content, saved, stepped_on, take_in, taken_in, with_input, with_step}
use Rattle.record_model.specs.Released.{Sender}
use Rattle.record_model.specs.Standing.{FitAll, FitsAct, FitsOffer, FitsStep, IsStanding}

-- parts that lead on lead on with more
leads_more : (from to next : State) (a b : List Part) (es : List (Entry Given Made)) → Leads from a to → entries_of (frames_in b) ≡ es → Stands timed from (log_of a ++ es) (start next) → Leads from (a ++ b) next
leads_more from to next a b es h same stands =
    let f = has_first from a h.committed in
    record {
      committed = committed-append from a b f ∙ h.committed;
      stands = subst (λ (l : List (Entry Given Made)). Stands timed from l (start next)) (sym (log-append a b f ∙ ap (λ (x : List (Entry Given Made)). log_of a ++ x) same)) stands;
    }

leads_same : (from to : State) (a b : List Part) → a ≡ b → Leads from a to → Leads from b to
leads_same from to a b e h = subst (λ (ps : List Part). Leads from ps to) e h

-- ---- steps without outputs

pub standing_moved : (r : Recording) (n : ℕ) (u : State) → IsStanding r → moved timed n r.machine ≡ Some u → IsStanding (record r { machine = u })
standing_moved r n u h m = record {
  from = h.from;
  header = h.header;
  saved = h.saved;
  journal = h.journal;
  reached = h.reached;
  batch = h.batch;
  steps = h.steps + n;
  quiet = moved_on timed h.steps n h.reached r.machine u h.quiet m;
}

-- ---- a step

pub standing_step : (r : Recording) (pages : List ℕ) (t : State) (os : List Made) → IsStanding r → step_of r.machine ≡ Some (t, os) → FitAll os → IsStanding (with_step r pages (t, os)).recording
standing_step r pages t [] h st fits =
    let one : moved timed 1 r.machine ≡ Some t = rw st refl in
    let m = standing_moved r 1 t h one in
    record {
      from = m.from;
      header = m.header;
      saved = m.saved;
      journal = m.journal;
      reached = m.reached;
      batch = leads_same m.from m.reached (parts r.journal ++ r.batch) (parts r.journal ++ (r.batch ++ [])) (ap (λ (b : List Part). parts r.journal ++ b) (sym (append-nil r.batch))) m.batch;
      steps = m.steps;
      quiet = m.quiet;
    }
standing_step r pages t (o ∷ os) h st fits =
    let more : List Part = made_parts (next_of r) t pages (o ∷ os) in
    let stands = step_recorded timed is_timed h.from h.reached r.machine t (log_of (parts r.journal ++ r.batch)) h.steps o os h.batch.stands h.quiet st in
    let leads = leads_more h.from h.reached t (parts r.journal ++ r.batch) more (map made (o ∷ os)) h.batch (made_log (next_of r) t pages (o ∷ os) fits) stands in
    record {
      from = h.from;
      header = h.header;
      saved = h.saved;
      journal = h.journal;
      reached = t;
      batch = leads_same h.from t ((parts r.journal ++ r.batch) ++ more) (parts r.journal ++ (r.batch ++ more)) (append_assoc (parts r.journal) r.batch more) leads;
      steps = 0;
      quiet = refl;
    }

-- a step with outputs leads to the state behind it
pub leads_all : (r : Recording) (pages : List ℕ) (t : State) (o : Made) (os : List Made) → (h : IsStanding r) → step_of r.machine ≡ Some (t, o ∷ os) → FitAll (o ∷ os) → Leads h.from ((parts r.journal ++ r.batch) ++ made_parts (next_of r) t pages (o ∷ os)) t
leads_all r pages t o os h st fits =
    let stands = step_recorded timed is_timed h.from h.reached r.machine t (log_of (parts r.journal ++ r.batch)) h.steps o os h.batch.stands h.quiet st in
    leads_more h.from h.reached t (parts r.journal ++ r.batch) (made_parts (next_of r) t pages (o ∷ os)) (map made (o ∷ os)) h.batch (made_log (next_of r) t pages (o ∷ os) fits) stands

pub standing_stepped : (r : Recording) (pages : List ℕ) (e : Effect) → IsStanding r → FitsStep r → stepped_on r pages ≡ Some e → IsStanding e.recording
standing_stepped r pages e h fits q = go (step_of r.machine) refl q
  where
    go : (s : Option (State × List Made)) → step_of r.machine ≡ s → option_map (with_step r pages) s ≡ Some e → IsStanding e.recording
    go None p w = absurd cc
    go (Some (t, os)) p w =
        let same : with_step r pages (t, os) ≡ e = cc in
        subst (λ (x : Effect). IsStanding x.recording) same (standing_step r pages t os h p (fits t os p))

-- ---- an input

taken_at : (s : State) (o : Offer) → refused s o ≡ None → takes timed s (given_at s o) ≡ Some (taken s o)
unfolding take_of
taken_at s o e = rw (eq-eqb s.count s.count refl, e) refl

pub standing_input : (r : Recording) (o : Offer) → IsStanding r → FitsContent (offer_content r.machine.count o) → refused r.machine o ≡ None → IsStanding (with_input r o (taken r.machine o))
standing_input r o h fits none =
    let more : List Part = entry (frame_of (next_of r) (offer_content r.machine.count o)) ∷ [] in
    let t : State = taken r.machine o in
    let stands = take_recorded timed is_timed h.from h.reached r.machine t (log_of (parts r.journal ++ r.batch)) h.steps (given_at r.machine o) h.batch.stands h.quiet (taken_at r.machine o none) in
    let leads = leads_more h.from h.reached t (parts r.journal ++ r.batch) more (given (given_at r.machine o) ∷ []) h.batch (offer_log (next_of r) r.machine.count o fits) stands in
    record {
      from = h.from;
      header = h.header;
      saved = h.saved;
      journal = h.journal;
      reached = t;
      batch = leads_same h.from t ((parts r.journal ++ r.batch) ++ more) (parts r.journal ++ (r.batch ++ more)) (append_assoc (parts r.journal) r.batch more) leads;
      steps = 0;
      quiet = refl;
    }

-- ---- every act

pub took : (s t : State) (o : Offer) → take_of s (given_at s o) ≡ Some t → (refused s o ≡ None) × (taken s o ≡ t)
unfolding take_of
took s t o h = go (refused s o) refl h
  where
    go : (w : Option NotTaken) → refused s o ≡ w → unless w (taken s o) ≡ Some t → (refused s o ≡ None) × (taken s o ≡ t)
    go None e q = (e, let r : taken s o ≡ t = cc in r)
    go (Some why) e q = absurd cc

pub effect_standing : (who : Sender) (pages : List ℕ) (r : Recording) (act : Act) (e : Effect) → IsStanding r → FitsAct r act → effect who pages r act ≡ Some e → IsStanding e.recording
effect_standing who pages r StepOn e h fits q = standing_stepped r pages e h fits q
effect_standing who pages r (AnswerClock value) e h fits q = go (take_of r.machine (given_at r.machine (OfferClock value))) refl q
  where
    go : (s : Option State) → take_of r.machine (given_at r.machine (OfferClock value)) ≡ s → (s >>= λ t. stepped_on (with_input r (OfferClock value) t) pages) ≡ Some e → IsStanding e.recording
    go None p w = absurd cc
    go (Some t) p w =
        let k = took r.machine t (OfferClock value) p in
        let in_ = standing_input r (OfferClock value) h fits.0 k.0 in
        standing_stepped (with_input r (OfferClock value) (taken r.machine (OfferClock value))) pages e in_ fits.1 (rw k.1 w)
effect_standing who pages r (TakeIn o) e h fits q = go o (refuse_packet r.machine o) refl q fits
  where
    go : (o : Option Offer) (w : Option NotTaken) → refuse_packet r.machine o ≡ w → take_in who r o w ≡ Some e → FitsOffer r o → IsStanding e.recording
    go o (Some why) p f fits' =
        let same : dropped_for who r o why ≡ e = cc in
        subst (λ (x : Effect). IsStanding x.recording) same h
    go None None p f fits' = absurd cc
    go (Some x) None p f fits' =
        let same : taken_in r x ≡ e = cc in
        subst (λ (y : Effect). IsStanding y.recording) same (standing_input r x h fits' p)
effect_standing who pages r (SendAgain peer) e h fits q =
    let same : _ ≡ e.recording = ap (λ (o : Option Effect). recording_or r o) q in
    subst IsStanding same h
  where
    recording_or : Recording → Option Effect → Recording
    recording_or r None = r
    recording_or r (Some x) = x.recording

-- ---- a batch that is saved

pub standing_saved : (r : Recording) → IsStanding r → IsStanding (saved r)
standing_saved r h =
    let all = record-parts r.journal r.batch in
    record {
      from = h.from;
      header = h.header;
      saved = h.reached;
      journal = leads_same h.from h.reached (parts r.journal ++ r.batch) (parts (with_record r.journal r.batch)) (sym all) h.batch;
      reached = h.reached;
      batch = leads_same h.from h.reached (parts r.journal ++ r.batch) (parts (with_record r.journal r.batch) ++ []) (sym (append-nil (parts (with_record r.journal r.batch)) ∙ all)) h.batch;
      steps = h.steps;
      quiet = h.quiet;
    }
