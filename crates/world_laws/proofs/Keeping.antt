-- Rows count the mail behind every event.
use Rattle.std.proofs.Common.{◌≡◌, ℕ, zero, suc, Bool, true, false, List, [], ◌∷◌, ◌++◌, Option, Some, None, refl, sym, ap, subst, ◌∙◌}
use Rattle.std.proofs.lemmas.List.{append-nil}
use Rattle.avm_model.specs.Machine.{State}
use Rattle.avm_model.specs.Reference.{Made, timed, step_of}
use Rattle.avm_model.specs.Rerun.{moved, moved_by, Stand}
use Rattle.avm_model.specs.declared.NotTaken.{NotTaken}
use Rattle.avm_model.specs.declared.Peer.{Peer}
use Rattle.world_model.specs.World.{Mail, mail_of, IsEvent, StaysOpen}
use Rattle.world_laws.specs.Counting.{mail_in, node_of, Sends, SendsNone, SendsOne, IsCounted, IsMailCounted, act_shows}
use Rattle.world_laws.specs.Events.{pieces_show, SignsFor, IsReopened, AsSaved, WithBatch, IsJournalCounted, IsSound}
use Rattle.world_laws.proofs.Sending.{step_sends}
use Rattle.world_laws.proofs.Acting.{dropped_same, effect_acted}
use Rattle.world_laws.proofs.Happening.{saved_mail, saved_counted, open_node, numbered_more, finished_event}
use Rattle.world_laws.proofs.Belonging.{effect_released}
use Rattle.journal_model.specs.Header.{HeaderData}
use Rattle.journal_model.specs.Journal.{JournalData, parts, with_record}
use Rattle.journal_model.specs.Part.{Part, entry, seal, keep}
use Rattle.honest_model.specs.Honest.{IsHonest, header_state, Leads}
use Rattle.honest_model.specs.Keeps.{AreTrue, HasTrueKeeps, IsOpened}
use Rattle.honest_model.proofs.Openings.{opened_is}
use Rattle.honest_model.proofs.Honesty.{leads_honest}
use Rattle.record_model.specs.Released.{Sender}
use Rattle.record_model.specs.Recording.{Recording, Act, Effect, effect, finished, closed, saved}
use Rattle.journal_model.specs.Saving.{commit_refusal}
use Rattle.record_model.specs.Standing.{IsStanding, FitsAct, KeepsTrue}
use Rattle.record_laws.proofs.Fronts.{step_front}
use Rattle.record_laws.proofs.Kept.{saved_true}
use Rattle.honest_model.proofs.Logs.{record-parts}
use Rattle.record_model.proofs.Standing.{effect_standing, standing_saved, standing_moved}
use Rattle.life_model.specs.Life.{opened}

-- ---- steps without outputs

pub record SameRows (s t : State) : Type 0 where
  pub own : t.devices.own ≡ s.devices.own
  pub peers : t.devices.peers ≡ s.devices.peers

no_sends : (old new : List Peer) → Sends old new [] → new ≡ old
no_sends old new (SendsNone e f) = e
no_sends old new (SendsOne peer number payload n f) = absurd cc

pub moved_rows : (n : ℕ) (s u : State) → moved timed n s ≡ Some u → SameRows s u
moved_rows zero s u e = let same : s ≡ u = cc in subst (λ (x : State). SameRows s x) same (record { own = refl; peers = refl })
moved_rows (suc n) s u e = go (λ t q. moved_rows n t u q) (step_of s) refl e
  where
    go : ((t : State) → moved timed n t ≡ Some u → SameRows t u) → (r : Option (State × List Made)) → step_of s ≡ r → moved_by r (moved timed n) ≡ Some u → SameRows s u
    go ih None p q = absurd cc
    go ih (Some (t, [])) p q =
        let k = ih t q in
        record { own = k.own ∙ (step_front s t [] p).own; peers = k.peers ∙ no_sends s.devices.peers t.devices.peers (step_sends s t [] p) }
    go ih (Some (t, o ∷ os)) p q = absurd cc

pub moved_kept : (r : Recording) (n : ℕ) (u : State) → IsSound r → moved timed n r.machine ≡ Some u → IsSound (record r { machine = u }) × (node_of (record r { machine = u }) ≡ node_of r)
moved_kept r n u h m =
    let k = moved_rows n r.machine u m in (
      record {
        standing = standing_moved r n u h.standing m;
        keeps = h.keeps;
        counted = subst (λ (ps : List Peer). IsCounted ps (mail_of (node_of r))) (sym k.peers) h.counted;
        journal = subst (λ (own : ℕ). IsJournalCounted own r.journal) (sym k.own) h.journal;
      },
      ap (λ (own : ℕ). record { own = own; saved = mail_in (parts r.journal); unsaved = mail_in r.batch }) k.own,
    )

-- ---- a journal leads to one state

pub leads_one : (from s t : State) (parts : List Part) → Leads from parts s → Leads from parts t → s ≡ t
leads_one from s t parts a b = ap (λ (x : Stand State Made). x.state) (a.stands.is ∙ sym b.stands.is)

-- what is saved counts: the journal's state is the one behind the batch
pub saved_journal : (r : Recording) → IsStanding r → IsMailCounted r → IsJournalCounted r.machine.devices.own (saved r).journal
saved_journal r h k from s head leads =
    let both : Some from ≡ Some h.from = sym head ∙ h.header in
    let one : from ≡ h.from = cc in
    let there : Leads h.from (parts r.journal ++ r.batch) s = subst (λ (x : State). Leads x (parts r.journal ++ r.batch) s) one (subst (λ (ps : List Part). Leads from ps s) (record-parts r.journal r.batch) leads) in
    let same : s ≡ h.reached = leads_one h.from s h.reached (parts r.journal ++ r.batch) there h.batch in
    let moves = moved_rows h.steps h.reached r.machine h.quiet in
    let rows : r.machine.devices.peers ≡ s.devices.peers = moves.peers ∙ ap (λ (x : State). x.devices.peers) (sym same) in
    (ap (λ (x : State). x.devices.own) same ∙ sym moves.own, subst (λ (ms : List Mail). IsCounted s.devices.peers ms) (sym (saved_mail r)) (subst (λ (ps : List Peer). IsCounted ps (mail_of (node_of r))) rows k))

-- ---- acts

pub closed_kept : (who : Sender) (r : Recording) → IsSound r → IsSound (closed who r).recording
closed_kept who r h = go (commit_refusal r.journal r.batch) refl
  where
    go : (w : Option _) → commit_refusal r.journal r.batch ≡ w → IsSound (closed who r).recording
    go (Some why) q = rw q h
    go None q = rw q (record { standing = standing_saved r h.standing; keeps = saved_true r h.keeps; counted = saved_counted r h.counted; journal = saved_journal r h.standing h.counted })

finished_kept : (who : Sender) (e : Effect) → IsSound e.recording → IsSound (finished who e).recording
finished_kept who e h = go e.closes refl
  where
    go : (b : Bool) → e.closes ≡ b → IsSound (finished who e).recording
    go true q = rw q (closed_kept who e.recording h)
    go false q = rw q h

standing_on : (who : Sender) (pages : List ℕ) (r : Recording) (act : Act) (e : Effect) → IsStanding r → (e.dropped ≡ None → FitsAct r act) → effect who pages r act ≡ Some e → IsStanding e.recording
standing_on who pages r act e h fits q = go e.dropped refl
  where
    go : (o : Option NotTaken) → e.dropped ≡ o → IsStanding e.recording
    go None d = effect_standing who pages r act e h (fits d) q
    go (Some why) d = subst IsStanding (sym (dropped_same who pages r act e why q d)) h

effect_kept : (who : Sender) (pages : List ℕ) (r : Recording) (act : Act) (e : Effect) → IsSound r → (e.dropped ≡ None → FitsAct r act) → effect who pages r act ≡ Some e → KeepsTrue e.recording → IsSound e.recording
effect_kept who pages r act e h fits q keeps =
    let a = effect_acted who pages r act e h.counted fits q in
    record {
      standing = standing_on who pages r act e h.standing fits q;
      keeps = keeps;
      counted = a.adds.counted;
      journal = subst (λ (own : ℕ). IsJournalCounted own e.recording.journal) (sym a.adds.own) (subst (λ (j : JournalData). IsJournalCounted r.machine.devices.own j) (sym a.adds.journal) h.journal);
    }

-- An act, done: an event with what it releases, and what is kept.
pub act_event : (who : Sender) (pages : List ℕ) (r : Recording) (act : Act) (e : Effect) → IsSound r → (e.dropped ≡ None → FitsAct r act) → effect who pages r act ≡ Some e → KeepsTrue e.recording → SignsFor who (finished who e).recording
    → IsEvent (act_shows act) (node_of r) (node_of (finished who e).recording) (pieces_show (finished who e).pieces) × IsSound (finished who e).recording
act_event who pages r act e h fits q keeps s =
    let a = effect_acted who pages r act e h.counted fits q in
    let released = effect_released who pages r act e q a.adds.journal s in
    ((finished_event who r act e a released).0, finished_kept who e (effect_kept who pages r act e h fits q keeps))

-- An act in front of its saving, where a crash may fall: an event that releases nothing.
pub act_begun : (who : Sender) (pages : List ℕ) (r : Recording) (act : Act) (e : Effect) → IsSound r → (e.dropped ≡ None → FitsAct r act) → effect who pages r act ≡ Some e → KeepsTrue e.recording
    → IsEvent (act_shows act) (node_of r) (node_of e.recording) [] × IsSound e.recording
act_begun who pages r act e h fits q keeps =
    let a = effect_acted who pages r act e h.counted fits q in (
      record {
        more = a.more;
        ending = StaysOpen;
        delivered = a.delivered;
        numbered = numbered_more r e.recording a.more a.adds;
        new_is = open_node r e.recording a.more a.adds;
        released_by = λ p i. absurd i;
      },
      effect_kept who pages r act e h fits q keeps,
    )

-- ---- opening again

reopened_journal : (r : Recording) (j : JournalData) → IsSound r → IsReopened r j → IsJournalCounted r.machine.devices.own j
reopened_journal r j h (AsSaved e) = subst (λ (x : JournalData). IsJournalCounted r.machine.devices.own x) (sym e) h.journal
reopened_journal r j h (WithBatch e) = subst (λ (x : JournalData). IsJournalCounted r.machine.devices.own x) (sym e) (saved_journal r h.standing h.counted)

pub true_front : (h : HeaderData) (x a b : List Part) → AreTrue h x (a ++ b) → AreTrue h x a
true_front h x [] b t = tt
true_front h x (entry f ∷ a) b t = true_front h (x ++ entry f ∷ []) a b t
true_front h x (seal ∷ a) b t = true_front h (x ++ seal ∷ []) a b t
true_front h x (keep k ∷ a) b t = (t.0, true_front h (x ++ keep k ∷ []) a b t.1)

-- a journal that leads to a state, and whose keeps are true
pub record LeadsTruly (from : State) (j : JournalData) : Type 0 where
  pub header : header_state j.header ≡ Some from
  pub to : State
  pub leads : Leads from (parts j) to
  pub keeps : HasTrueKeeps j

pub saved_leads : (r : Recording) → (h : IsSound r) → LeadsTruly h.standing.from r.journal
saved_leads r h = record {
  header = h.standing.header;
  to = h.standing.saved;
  leads = h.standing.journal;
  keeps = true_front r.journal.header [] (parts r.journal) r.batch h.keeps;
}

pub batch_leads : (r : Recording) → (h : IsSound r) → LeadsTruly h.standing.from (with_record r.journal r.batch)
batch_leads r h = record {
  header = h.standing.header;
  to = h.standing.reached;
  leads = subst (λ (ps : List Part). Leads h.standing.from ps h.standing.reached) (sym (record-parts r.journal r.batch)) h.standing.batch;
  keeps = subst (λ (ps : List Part). AreTrue r.journal.header [] ps) (sym (record-parts r.journal r.batch)) h.keeps;
}

pub reopened_leads : (r : Recording) (j : JournalData) → (h : IsSound r) → IsReopened r j → LeadsTruly h.standing.from j
reopened_leads r j h (AsSaved e) = subst (λ (x : JournalData). LeadsTruly h.standing.from x) (sym e) (saved_leads r h)
reopened_leads r j h (WithBatch e) = subst (λ (x : JournalData). LeadsTruly h.standing.from x) (sym e) (batch_leads r h)

-- behind a crash the opened recording is sound, and has the same own id
pub reopened_kept : (r : Recording) (j : JournalData) (to : State) → IsSound r → IsReopened r j → IsOpened j to → (to.devices.own ≡ r.machine.devices.own) × IsSound (opened j to)
reopened_kept r j to h re is =
    let all = reopened_journal r j h re in
    let w = reopened_leads r j h re in
    let machine : to ≡ w.to = opened_is j h.standing.from w.to to w.header w.leads w.keeps is in
    let leads : Leads h.standing.from (parts j) to = subst (λ (x : State). Leads h.standing.from (parts j) x) (sym machine) w.leads in
    let k = all h.standing.from to w.header leads in (
      k.0,
      record {
        standing = record {
          from = h.standing.from;
          header = w.header;
          saved = to;
          journal = leads;
          reached = to;
          batch = subst (λ (ps : List Part). Leads h.standing.from ps to) (sym (append-nil (parts j))) leads;
          steps = 0;
          quiet = refl;
        };
        keeps = subst (λ (ps : List Part). AreTrue j.header [] ps) (sym (append-nil (parts j))) w.keeps;
        counted = subst (λ (ms : List Mail). IsCounted to.devices.peers ms) (sym (append-nil (mail_in (parts j)))) k.1;
        journal = subst (λ (own : ℕ). IsJournalCounted own j) (sym k.0) all;
      },
    )

-- what is sound is honest, with the unsaved batch and without it
pub sound_honest : (r : Recording) → IsSound r → IsHonest r.journal × IsHonest (with_record r.journal r.batch)
sound_honest r h =
    let a = saved_leads r h in
    let b = batch_leads r h in
    (leads_honest r.journal h.standing.from a.to a.header a.leads, leads_honest (with_record r.journal r.batch) h.standing.from b.to b.header b.leads)
