-- A station that joins is sound.
use Rattle.std.proofs.Common.{◌≡◌, ℕ, Bool, true, false, List, [], ◌∷◌, ◌++◌, Some, refl, sym, ap, subst, ◌∙◌}
use Rattle.std.specs.Prelude.{◌==◌, ◌&&◌}
use Rattle.std.proofs.lemmas.List.{append-nil}
use Rattle.std.proofs.lemmas.Bool.{and_parts, eqb-true}
use Rattle.avm_model.specs.Machine.{State}
use Rattle.avm_model.specs.Device.{row_of}
use Rattle.avm_model.specs.ImageState.{are_unused}
use Rattle.avm_model.specs.declared.Peer.{Peer}
use Rattle.journal_model.specs.Part.{Part}
use Rattle.journal_model.specs.Journal.{parts}
use Rattle.honest_model.specs.Honest.{Leads}
use Rattle.honest_model.specs.Keeps.{AreTrue}
use Rattle.world_model.specs.World.{Mail, mail_of}
use Rattle.world_laws.specs.Counting.{IsCounted}
use Rattle.world_laws.specs.Events.{IsSound, IsJournalCounted}
use Rattle.world_laws.specs.Network.{Station, station_node, IsFirst}
use Rattle.world_laws.proofs.Rows.{row_first, row_next}
use Rattle.world_laws.proofs.Keeping.{leads_one}

-- ---- rows that count nothing

pub record CountsNone (row : Peer) : Type 0 where
  pub sent : row.sent ≡ 0
  pub acked : row.acked ≡ 0
  pub received : row.received ≡ 0

unused_row : (ps : List Peer) (id : ℕ) (row : Peer) → are_unused ps ≡ true → row_of ps id ≡ Some row → CountsNone row
unused_row [] id row e q = absurd cc
unused_row (x ∷ xs) id row e q = go (λ r. unused_row xs id row (and_parts _ (are_unused xs) e).1 r) (x.id == id) refl
  where
    here : CountsNone x
    here =
        let a = and_parts (x.sent == 0 && x.acked == 0 && x.received == 0) (are_unused xs) e in
        let b = and_parts (x.sent == 0 && x.acked == 0) (x.received == 0) a.0 in
        let c = and_parts (x.sent == 0) (x.acked == 0) b.0 in
        record { sent = eqb-true x.sent 0 c.0; acked = eqb-true x.acked 0 c.1; received = eqb-true x.received 0 b.1 }

    go : (row_of xs id ≡ Some row → CountsNone row) → (b : Bool) → (x.id == id) ≡ b → CountsNone row
    go ih true r =
        let some : Some x ≡ Some row = sym (row_first x xs id r) ∙ q in
        let same : x ≡ row = cc in
        subst CountsNone same here
    go ih false r = ih (sym (row_next x xs id r) ∙ q)

none_counted : (ps : List Peer) → are_unused ps ≡ true → IsCounted ps []
none_counted ps e = record {
  numbered = record { sent = λ peer. tt; received = λ peer. tt };
  sent = λ id row q. (unused_row ps id row e q).sent;
  received = λ id row q. (unused_row ps id row e q).received;
  acked = λ id row q. (unused_row ps id row e q).acked;
}

-- ---- the start

pub no_mail : (s : Station) → IsFirst s → mail_of (station_node s) ≡ []
no_mail s h = rw (h.mail, h.batch) refl

pub first_kept : (s : Station) → IsFirst s → IsSound s.recording
first_kept s h = record {
  standing = record {
    from = h.from;
    header = h.header;
    saved = s.recording.machine;
    journal = h.leads;
    reached = s.recording.machine;
    batch = subst (λ (ps : List Part). Leads h.from ps s.recording.machine) (sym (append-nil (parts s.recording.journal)) ∙ ap (λ (b : List Part). parts s.recording.journal ++ b) (sym h.batch)) h.leads;
    steps = 0;
    quiet = refl;
  };
  keeps = subst (λ (ps : List Part). AreTrue s.recording.journal.header [] ps) (sym (append-nil (parts s.recording.journal)) ∙ ap (λ (b : List Part). parts s.recording.journal ++ b) (sym h.batch)) h.keeps;
  counted = subst (λ (ms : List Mail). IsCounted s.recording.machine.devices.peers ms) (sym (no_mail s h)) (none_counted s.recording.machine.devices.peers h.rows);
  journal = journal;
}
  where
    journal : IsJournalCounted s.recording.machine.devices.own s.recording.journal
    journal from t head leads =
        let both : Some from ≡ Some h.from = sym head ∙ h.header in
        let one : from ≡ h.from = cc in
        let there : Leads h.from (parts s.recording.journal) t = subst (λ (x : State). Leads x (parts s.recording.journal) t) one leads in
        let same : s.recording.machine ≡ t = leads_one h.from s.recording.machine t (parts s.recording.journal) h.leads there in
        (ap (λ (x : State). x.devices.own) (sym same), subst (λ (ms : List Mail). IsCounted t.devices.peers ms) (sym h.mail) (subst (λ (x : State). IsCounted x.devices.peers []) same (none_counted s.recording.machine.devices.peers h.rows)))
