-- What is done at a node is an event of its world.
use Rattle.std.proofs.Common.{◌≡◌, ℕ, Bool, true, false, List, [], ◌++◌, Option, Some, None, refl, sym, ap, subst, ◌∙◌, append_assoc}
use Rattle.std.proofs.lemmas.List.{append-nil}
use Rattle.world_model.specs.World.{Mail, Node, mail_of, Parcel, Ending, StaysOpen, IsSaved, IsLost, ended, IsReleasedBy, IsEvent, IsNumbered}
use Rattle.world_laws.specs.Counting.{mail_in, node_of, IsCounted, IsMailCounted, act_shows, HasMore, IsActed}
use Rattle.world_laws.specs.Events.{pieces_show, IsReopened, AsSaved, WithBatch, opened_node}
use Rattle.world_laws.proofs.Acting.{mail-append}
use Rattle.journal_model.specs.Journal.{JournalData, parts}
use Rattle.record_model.specs.Released.{Sender}
use Rattle.avm_outside.specs.Outlet.{Piece}
use Rattle.record_model.specs.Recording.{Recording, Act, Effect, finished, closed_by, saved}
use Rattle.journal_model.specs.Saving.{CommitRefusal, commit_refusal}
use Rattle.honest_model.proofs.Logs.{record-parts}
use Rattle.life_model.specs.Life.{Among}

pub saved_mail : (r : Recording) → mail_in (parts (saved r).journal) ≡ mail_in (parts r.journal) ++ mail_in r.batch
saved_mail r = ap mail_in (record-parts r.journal r.batch) ∙ mail-append (parts r.journal) r.batch

-- what is saved counts the same
pub saved_counted : (r : Recording) → IsMailCounted r → IsMailCounted (saved r)
saved_counted r h = subst (λ (ms : List Mail). IsCounted r.machine.devices.peers ms) (sym (saved_mail r) ∙ sym (append-nil (mail_in (parts (saved r).journal)))) h

-- a recording with more mail, open and saved, as a node behind an event
pub open_node : (r q : Recording) (more : List Mail) → HasMore r q more → node_of q ≡ ended (node_of r) more StaysOpen
open_node r q more h = rw (h.own, h.journal, h.batch) refl

saved_node : (r q : Recording) (more : List Mail) → HasMore r q more → node_of (saved q) ≡ ended (node_of r) more IsSaved
saved_node r q more h =
    let all : mail_in (parts (saved q).journal) ≡ mail_in (parts r.journal) ++ (mail_in r.batch ++ more) = saved_mail q ∙ ap (λ (j : JournalData). mail_in (parts j) ++ mail_in q.batch) h.journal ∙ ap (λ (ms : List Mail). mail_in (parts r.journal) ++ ms) h.batch in
    ap (λ (ms : List Mail). record { own = q.machine.devices.own; saved = ms; unsaved = [] }) all ∙ ap (λ (n : ℕ). record { own = n; saved = mail_in (parts r.journal) ++ (mail_in r.batch ++ more); unsaved = [] }) h.own

pub numbered_more : (r q : Recording) (more : List Mail) → HasMore r q more → IsNumbered (mail_of (node_of r) ++ more)
numbered_more r q more h =
    let all : mail_of (node_of q) ≡ mail_of (node_of r) ++ more = ap (λ (n : Node). mail_of n) (open_node r q more h) ∙ sym (append_assoc (mail_in (parts r.journal)) (mail_in r.batch) more) in
    subst IsNumbered all h.counted.numbered

-- ---- what is done

abbrev pub EndsIn : Node → List Mail → Node → Type 0
EndsIn old more new = (e : Ending) × (new ≡ ended old more e)

pub closed_ends : (who : Sender) (r q : Recording) (more : List Mail) (why : Option CommitRefusal) → HasMore r q more → EndsIn (node_of r) more (node_of (closed_by who q why).recording) × IsMailCounted (closed_by who q why).recording
closed_ends who r q more (Some why) h = ((StaysOpen, open_node r q more h), h.counted)
closed_ends who r q more None h = ((IsSaved, saved_node r q more h), saved_counted q h.counted)

pub finished_ends : (who : Sender) (r : Recording) (e : Effect) (more : List Mail) → HasMore r e.recording more → EndsIn (node_of r) more (node_of (finished who e).recording) × IsMailCounted (finished who e).recording
finished_ends who r e more h = go e.closes refl
  where
    go : (b : Bool) → e.closes ≡ b → EndsIn (node_of r) more (node_of (finished who e).recording) × IsMailCounted (finished who e).recording
    go true q = rw q (closed_ends who r e.recording more (commit_refusal e.recording.journal e.recording.batch) h)
    go false q = rw q ((StaysOpen, open_node r e.recording more h), h.counted)

abbrev pub AreReleased : Node → List Piece → Type 0
AreReleased n pieces = (p : Parcel) → Among p (pieces_show pieces) → IsReleasedBy n p

pub finished_event : (who : Sender) (r : Recording) (act : Act) (e : Effect) → IsActed r act e → AreReleased (node_of (finished who e).recording) (finished who e).pieces
    → IsEvent (act_shows act) (node_of r) (node_of (finished who e).recording) (pieces_show (finished who e).pieces) × IsMailCounted (finished who e).recording
finished_event who r act e h released =
    let k = finished_ends who r e h.more h.adds in (
      record {
        more = h.more;
        ending = k.0.0;
        delivered = h.delivered;
        numbered = numbered_more r e.recording h.more h.adds;
        new_is = k.0.1;
        released_by = released;
      },
      k.1,
    )

-- ---- a crash

-- Opening a node again, behind a crash in which nothing more was taken, is an event too; with the batch in flight its mail is saved.
pub crash_event : (pool : List Parcel) (r : Recording) (j : JournalData) → IsMailCounted r → IsReopened r j → IsEvent pool (node_of r) (opened_node r.machine.devices.own j) []
crash_event pool r j h (AsSaved e) = record {
  more = [];
  ending = IsLost;
  delivered = λ m i. absurd i;
  numbered = subst IsNumbered (sym (append-nil (mail_of (node_of r)))) h.numbered;
  new_is = ap (λ (x : JournalData). opened_node r.machine.devices.own x) e;
  released_by = λ p i. absurd i;
}
crash_event pool r j h (WithBatch e) = record {
  more = [];
  ending = IsSaved;
  delivered = λ m i. absurd i;
  numbered = subst IsNumbered (sym (append-nil (mail_of (node_of r)))) h.numbered;
  new_is = ap (λ (x : JournalData). opened_node r.machine.devices.own x) e ∙ ap (λ (ms : List Mail). record { own = r.machine.devices.own; saved = ms; unsaved = [] }) (saved_mail r ∙ ap (λ (ms : List Mail). mail_in (parts r.journal) ++ ms) (sym (append-nil (mail_in r.batch))));
  released_by = λ p i. absurd i;
}
