-- A machine's own id stays, and so does a journal's header.
use Rattle.std.proofs.Common.{◌≡◌, ℕ, Bool, true, false, List, ◌++◌, Option, Some, None, Result, Ok, Err, refl, ap, ◌∙◌}
use Rattle.avm_model.specs.Machine.{State}
use Rattle.avm_outside.specs.Outlet.{Piece}
use Rattle.journal_model.specs.Journal.{JournalData}
use Rattle.journal_model.specs.Part.{Part}
use Rattle.journal_model.specs.Saving.{CommitRefusal, commit_refusal}
use Rattle.jrnl_store.specs.declared.fault.Stop.{Stop}
use Rattle.jrnl_store.specs.declared.fault.Stop.TheVariants.{LeavesSpent, Full, DiskFault, OutletFault, FeedFault}
use Rattle.record_model.specs.Recording.{Act, Effect, Recording, closed_by, finished, needs_no_seal, sealed, with_seal}
use Rattle.record_model.specs.Released.{Sender}
use Rattle.record_model.specs.Turn.{Gift}
use Rattle.record_parts.specs.Ends.{EndsAs, Faults, SealsAs}
use Rattle.record_parts.specs.declared.answers.Turn.{Turn}
use Rattle.record_turn.specs.Keeping.{Aside}
use Rattle.recorder.specs.Turns.{Does, Planned}
use Rattle.world_core.specs.Turns.{Packets, stays}
use Rattle.world_laws.proofs.Acting.{effect_acted}
use Rattle.world_laws.proofs.Happening.{finished_ends}
use Rattle.world_laws.proofs.Keeping.{moved_kept, moved_rows}
use Rattle.world_laws.proofs.Networks.{happens_event}
use Rattle.world_laws.specs.Counting.{HasMore, node_of}
use Rattle.world_laws.specs.Events.{IsSound}
use Rattle.world_model.proofs.Worlds.{own_stays}
use Rattle.world_model.specs.World.{IsEvent, Mail, Node, Parcel}
use Rattle.world_parts.specs.Holding.{with_piece}
use Rattle.world_turns.proofs.Fitting.{act_fits}
use Rattle.world_turns.specs.Comes.{Comes, Stays, Then}

-- ---- happenings

event_own : (pool : List Parcel) (old new : Node) (released : List Parcel) → IsEvent pool old new released → new.own ≡ old.own
event_own pool old new released h = ap (λ (n : Node). n.own) h.new_is ∙ own_stays old h.more h.ending

abbrev pub same_own : Recording → Recording → Type 0
same_own r t = t.machine.devices.own ≡ r.machine.devices.own

pub comes_on : (pool : List Piece) (who : Sender) (r t : Recording) (ps : List Piece) → IsSound r → Comes pool who r t ps → same_own r t × IsSound t
comes_on pool who _ _ _ h (Stays r) = (refl, h)
comes_on pool who _ _ _ h (Then r q t ps qs c k) =
    let a = comes_on pool who r q ps h c in
    let b = happens_event (pool ++ ps) (record { who = who; recording = q }) t qs a.1 k in
    (event_own _ (node_of q) (node_of t) _ b.0 ∙ a.0, b.1)

-- ---- an act

-- the own id and the header stay
pub record Same (r t : Recording) : Type 0 where
  pub own : t.machine.devices.own ≡ r.machine.devices.own
  pub header : t.journal.header ≡ r.journal.header

same_as : (r t x : Recording) → x ≡ t → Same r t → Same r x
same_as r t x e h = rw e h

closed_header : (who : Sender) (r : Recording) (why : Option CommitRefusal) → (closed_by who r why).recording.journal.header ≡ r.journal.header
closed_header who r (Some why) = refl
closed_header who r None = refl

finished_header : (who : Sender) (e : Effect) → (finished who e).recording.journal.header ≡ e.recording.journal.header
finished_header who e = go e.closes refl
  where
    go : (b : Bool) → e.closes ≡ b → (finished who e).recording.journal.header ≡ e.recording.journal.header
    go true q = rw q (closed_header who e.recording (commit_refusal e.recording.journal e.recording.batch))
    go false q = rw q refl

finished_same : (who : Sender) (r : Recording) (e : Effect) (more : List Mail) → HasMore r e.recording more → Same r (finished who e).recording
finished_same who r e more a =
    let k = finished_ends who r e more a in
    record {
      own = ap (λ (n : Node). n.own) k.0.1 ∙ own_stays (node_of r) more k.0.0;
      header = finished_header who e ∙ ap (λ (j : JournalData). j.header) a.journal;
    }

begun_same : (r : Recording) (e : Effect) (more : List Mail) → HasMore r e.recording more → Same r e.recording
begun_same r e more a = record { own = a.own; header = ap (λ (j : JournalData). j.header) a.journal }

ends_same : (who : Sender) (r : Recording) (e : Effect) (q : Recording) (more : List Mail) (f : Faults) (old new : Packets) (result : Result Turn Stop) → HasMore r e.recording more → EndsAs with_piece stays who e q f old new result → Same r q
ends_same who r e q more f old new (Ok x) a h = same_as r _ q h.1 (finished_same who r e more a)
ends_same who r e q more f old new (Err LeavesSpent) a h = same_as r e.recording q h.1 (begun_same r e more a)
ends_same who r e q more f old new (Err Full) a h = same_as r e.recording q h.1 (begun_same r e more a)
ends_same who r e q more f old new (Err DiskFault) a h = same_as r e.recording q h.0 (begun_same r e more a)
ends_same who r e q more f old new (Err OutletFault) a h = same_as r _ q h.1 (finished_same who r e more a)
ends_same who r e q more f old new (Err FeedFault) a h = absurd h

pub planned_same : (who : Sender) (g : Gift) (value : ℕ) (r : Recording) (aside after : Aside) (batch : List Part) (machine : State) (f : Faults) (old new : Packets) (result : Result Turn Stop) (next : JournalData) (flight : List Part)
    → IsSound r → Planned with_piece stays who g value r aside after batch machine f old new result next flight → Same r (record { journal = next; batch = batch; machine = machine })
planned_same who g value r aside after batch machine f old new result next flight h p = go p.plan.act p.does
  where
    go : (o : Option Act) → Does with_piece stays who p.plan o r aside after batch machine f old new result next flight → Same r (record { journal = next; batch = batch; machine = machine })
    go None d = record { own = ap (λ (s : State). s.devices.own) d.machine_is; header = ap (λ (j : JournalData). j.header) d.journal }
    go (Some act) d =
        let at : Recording = record r { machine = d.acts.at } in
        let moved = moved_kept r p.plan.quiet d.acts.at h d.acts.moved_to in
        let rows = moved_rows p.plan.quiet r.machine d.acts.at d.acts.moved_to in
        let acted = effect_acted who d.acts.pages at act d.acts.effect moved.0.counted (act_fits at act d.acts.pages d.acts.effect aside.ram after.ram d.keeps) d.acts.effect_is in
        let s = ends_same who at d.acts.effect (record { journal = next; batch = batch; machine = machine }) acted.more f old new result acted.adds d.acts.ends in
        record { own = s.own ∙ rows.own; header = s.header }

-- ---- a seal

sealed_header : (who : Sender) (r : Recording) → (sealed who r).recording.journal.header ≡ r.journal.header
sealed_header who r = go (needs_no_seal r) refl
  where
    go : (b : Bool) → needs_no_seal r ≡ b → (sealed who r).recording.journal.header ≡ r.journal.header
    go true q = rw q refl
    go false q = rw q (closed_header who (with_seal r) (commit_refusal r.journal (with_seal r).batch))

pub seals_header : {T : Type 0} (who : Sender) (r q : Recording) (f : Faults) (old new : Packets) (result : Result T Stop) → SealsAs with_piece stays who r q f old new result → q.journal.header ≡ r.journal.header
seals_header who r q f old new (Ok x) h = ap (λ (x : Recording). x.journal.header) h.1 ∙ sealed_header who r
seals_header who r q f old new (Err LeavesSpent) h = ap (λ (x : Recording). x.journal.header) h.1
seals_header who r q f old new (Err Full) h = ap (λ (x : Recording). x.journal.header) h.1
seals_header who r q f old new (Err DiskFault) h = ap (λ (x : Recording). x.journal.header) h.0
seals_header who r q f old new (Err OutletFault) h = ap (λ (x : Recording). x.journal.header) h.1 ∙ sealed_header who r
seals_header who r q f old new (Err FeedFault) h = absurd h
