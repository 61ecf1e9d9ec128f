-- What an act leaves.
use Rattle.std.proofs.Common.{◌≡◌, ℕ, ◌+◌, Bool, true, false, List, [], ◌∷◌, ◌++◌, Option, Some, None, refl, sym, ap, subst, ◌∙◌, append_assoc}
use Rattle.avm_num.specs.Bytes.{◌>>=◌}
use Rattle.avm_num.specs.Walk.{items_of}
use Rattle.avm_num.proofs.Walks.{items_none}
use Rattle.avm_model.specs.Content.{FitsContent}
use Rattle.avm_model.specs.Head.{HeadData}
use Rattle.avm_model.specs.Machine.{State}
use Rattle.avm_model.specs.Memory.{RamState}
use Rattle.avm_model.specs.Offer.{Offer, OfferClock, refuse_packet, refused, taken}
use Rattle.avm_model.specs.Reference.{Made, OutAt, SendAt, HaltAt, SnapAt, NothingAt, step_of, take_of}
use Rattle.avm_model.specs.declared.NotTaken.{NotTaken}
use Rattle.honest_model.specs.KeepPages.{IsHeader}
use Rattle.honest_model.specs.Keeps.{AreTrue}
use Rattle.journal_model.specs.Fits.{FitsJournal}
use Rattle.journal_model.specs.Header.{HeaderData}
use Rattle.journal_model.specs.Journal.{page_count_of, pages_ascend, parts}
use Rattle.journal_model.specs.Part.{Part, page_at}
use Rattle.life_model.specs.Life.{KeepsSnaps}
use Rattle.record_batch.proofs.PartLaws.{page_shortens}
use Rattle.record_laws.proofs.Kept.{input_true, step_true}
use Rattle.record_laws.proofs.Truth.{true-append}
use Rattle.record_model.proofs.Continuing.{effect_continues}
use Rattle.record_model.proofs.Standing.{standing_input, standing_step, took}
use Rattle.record_model.specs.Recording.{Act, AnswerClock, Effect, Recording, SendAgain, StepOn, TakeIn, dropped_for, effect, frame_of, given_at, made_parts, next_of, offer_content, stepped_on, take_in, taken_in, with_input, with_step}
use Rattle.record_model.specs.Released.{Sender}
use Rattle.record_model.specs.Standing.{FitAll, FitsOffer, KeepsTrue}
use Rattle.record_turn.proofs.Keeps.{entry_tells}
use Rattle.record_turn.specs.Keeping.{KeepsAct, MarksTell, StepsTo, makes_snap}
use Rattle.truth_laws.proofs.Snaps.{snaps_input, snaps_made, snaps_on}
use Rattle.truth_laws.specs.Truth.{IsTrue}

-- an effect is true, its marks tell, and the journal is as before
pub record Leaves (r : Recording) (e : Effect) (ram : RamState) : Type 0 where
  pub now : IsTrue e.recording
  pub marks : MarksTell e.recording.journal e.recording.batch ram
  pub journal : e.recording.journal ≡ r.journal

-- ---- a step

-- without a SNAP there is no keep
quiet_true : (h : HeaderData) (os : List Made) (before : List Part) (n : ℕ) (s : State) (pages : List ℕ) → makes_snap os ≡ false → AreTrue h before (made_parts n s pages os)
quiet_true h [] before n s pages e = tt
quiet_true h (OutAt count bytes ∷ os) before n s pages e = quiet_true h os _ (n + 1) s pages e
quiet_true h (SendAt count peer number payload ∷ os) before n s pages e = quiet_true h os _ (n + 1) s pages e
quiet_true h (HaltAt count cause value ∷ os) before n s pages e = quiet_true h os _ (n + 1) s pages e
quiet_true h (SnapAt count r ∷ os) before n s pages e = absurd cc
quiet_true h (NothingAt count ∷ os) before n s pages e = quiet_true h os _ (n + 1) s pages e

-- the step that can be made
one_step : (s t : State) (os : List Made) → step_of s ≡ Some (t, os) → FitAll os → (u : State) (ps : List Made) → step_of s ≡ Some (u, ps) → FitAll ps
one_step s t os st fits u ps other =
    let q : Some (t, os) ≡ Some (u, ps) = sym st ∙ other in
    let one : (t, os) ≡ (u, ps) = cc in
    subst FitAll (ap (λ (x : State × List Made). x.1) one) fits

module _ (who : Sender) (r : Recording) (a : HeadData) (pages : List ℕ) (ram after : RamState) (fits_journal : FitsJournal r.journal) (head : IsHeader r.journal.header a) (h : IsTrue r) (m : MarksTell r.journal r.batch ram) where
  made : (t : State) → (k : StepsTo r.machine r.journal r.batch t pages ram after) → Leaves r (with_step r pages (t, k.outs)) after
  made t k = record {
    now = record {
      standing = standing_step r pages t k.outs h.standing k.step k.keeps.fits;
      goes_on = effect_continues who pages r StepOn (with_step r pages (t, k.outs)) fits_journal k.keeps.ascends h.goes_on (one_step r.machine t k.outs k.step k.keeps.fits) (rw k.step refl);
      keeps = go (makes_snap k.outs) refl;
      snaps = subst (λ (ps : List Part). KeepsSnaps true ps) (append_assoc (parts r.journal) r.batch more) (snaps_on true (parts r.journal ++ r.batch) more h.snaps (snaps_made k.outs (next_of r) t pages));
    };
    marks = k.keeps.marks m;
    journal = refl;
  }
    where
      more : List Part
      more = made_parts (next_of r) t pages k.outs

      go : (b : Bool) → makes_snap k.outs ≡ b → KeepsTrue (with_step r pages (t, k.outs)).recording
      go true q = step_true r a pages t k.outs h.standing h.keeps head k.step k.keeps.fits (k.keeps.head q) (k.keeps.pages_are q m)
      go false q =
          subst (λ (ps : List Part). AreTrue r.journal.header [] ps) (append_assoc (parts r.journal) r.batch more)
          (true-append r.journal.header [] (parts r.journal ++ r.batch) more h.keeps (quiet_true r.journal.header k.outs (parts r.journal ++ r.batch) (next_of r) t pages q))

  pub stepped : (e : Effect) → StepsTo r.machine r.journal r.batch e.recording.machine pages ram after → stepped_on r pages ≡ Some e → Leaves r e after
  stepped e k q =
      let z : Some (with_step r pages (e.recording.machine, k.outs)) ≡ Some e = rw k.step at q in
      let same : with_step r pages (e.recording.machine, k.outs) ≡ e = cc in
      subst (λ (x : Effect). Leaves r x after) same (made e.recording.machine k)

-- ---- what comes in

no_pages : (most : ℕ) → pages_ascend 0 most (items_of page_at []) ≡ true
unfolding page_at
no_pages most = rw (items_none page_at page_shortens [] refl) refl

pub came_in : (who : Sender) (r : Recording) (o : Offer) (ram : RamState) → FitsJournal r.journal → IsTrue r → refused r.machine o ≡ None → FitsContent (offer_content r.machine.count o) → MarksTell r.journal (taken_in r o).recording.batch ram → Leaves r (taken_in r o) ram
came_in who r o ram w h none fits m = record {
  now = record {
    standing = standing_input r o h.standing fits none;
    goes_on = effect_continues who [] r (TakeIn (Some o)) (taken_in r o) w (no_pages (page_count_of r.journal)) h.goes_on fits (rw none refl);
    keeps = input_true r o h.keeps;
    snaps = subst (λ (ps : List Part). KeepsSnaps true ps) (append_assoc (parts r.journal) r.batch _) (snaps_on true (parts r.journal ++ r.batch) _ h.snaps (snaps_input (next_of r) r.machine.count o));
  };
  marks = m;
  journal = refl;
}

taken_or : (who : Sender) (r : Recording) (e : Effect) (ram after : RamState) → FitsJournal r.journal → IsTrue r → MarksTell r.journal r.batch ram → (o : Option Offer) (w : Option NotTaken) → refuse_packet r.machine o ≡ w → take_in who r o w ≡ Some e → (e.dropped ≡ None → FitsOffer r o)
    → (MarksTell r.journal r.batch ram → MarksTell r.journal e.recording.batch after) → Leaves r e after
taken_or who r e ram after w h m o (Some why) p f fits marks =
    let same : dropped_for who r o why ≡ e = cc in
    let is : e.recording ≡ r = ap (λ (x : Effect). x.recording) (sym same) in
    record { now = subst IsTrue (sym is) h; marks = subst (λ (x : Recording). MarksTell x.journal e.recording.batch after) (sym is) (marks m); journal = ap (λ (x : Recording). x.journal) is }
taken_or who r e ram after w h m None None p f fits marks = absurd cc
taken_or who r e ram after w h m (Some o) None p f fits marks =
    let same : taken_in r o ≡ e = cc in
    let none : e.dropped ≡ None = ap (λ (x : Effect). x.dropped) (sym same) in
    subst (λ (x : Effect). Leaves r x after) same (came_in who r o after w h p (fits none) (subst (λ (x : Effect). MarksTell r.journal x.recording.batch after) (sym same) (marks m)))

-- ---- each act

abbrev recording_or : Recording → Option Effect → Recording
recording_or r None = r
recording_or r (Some x) = x.recording

pub act_leaves : (who : Sender) (r : Recording) (a : HeadData) (act : Act) (pages : List ℕ) (e : Effect) (ram after : RamState) → FitsJournal r.journal → IsHeader r.journal.header a → IsTrue r → MarksTell r.journal r.batch ram → effect who pages r act ≡ Some e → KeepsAct act r e pages ram after → Leaves r e after
act_leaves who r a StepOn pages e ram after w head h m q k = stepped who r a pages ram after w head h m e k q
act_leaves who r a (AnswerClock value) pages e ram after w head h m q k = go (take_of r.machine (given_at r.machine (OfferClock value))) refl q
  where
    go : (s : Option State) → take_of r.machine (given_at r.machine (OfferClock value)) ≡ s → (s >>= λ t. stepped_on (with_input r (OfferClock value) t) pages) ≡ Some e → Leaves r e after
    go None p z = absurd cc
    go (Some t) p z =
        let n = took r.machine t (OfferClock value) p in
        let one : Recording = with_input r (OfferClock value) (taken r.machine (OfferClock value)) in
        let tells : MarksTell one.journal one.batch ram = entry_tells r.journal r.batch (frame_of (next_of r) (offer_content r.machine.count (OfferClock value))) ram m in
        let first = came_in who r (OfferClock value) ram w h n.0 k.0 tells in
        let last = stepped who one a pages ram after w head first.now tells e k.1 (rw n.1 z) in
        record { now = last.now; marks = last.marks; journal = last.journal }
act_leaves who r a (TakeIn o) pages e ram after w head h m q k = taken_or who r e ram after w h m o (refuse_packet r.machine o) refl q k.0 k.1
act_leaves who r a (SendAgain peer) pages e ram after w head h m q k =
    let is : r ≡ e.recording = ap (λ (o : Option Effect). recording_or r o) q in
    record { now = subst IsTrue is h; marks = subst (λ (x : Recording). MarksTell x.journal e.recording.batch after) is (k m); journal = ap (λ (x : Recording). x.journal) (sym is) }
