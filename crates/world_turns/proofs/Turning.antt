-- A turn and a seal as happenings.
use Rattle.std.proofs.Common.{◌≡◌, ℕ, Bool, true, false, List, [], ◌∷◌, Option, Some, None, Result, Ok, Err, refl, sym, ap, subst, ◌∙◌, inl, inr, is_some}
use Rattle.std.proofs.lemmas.List.{append-nil}
use Rattle.avm_model.specs.Head.{HeadData}
use Rattle.avm_model.specs.Machine.{State, asks}
use Rattle.avm_model.specs.declared.Status.{Status}
use Rattle.avm_model.specs.declared.Status.TheVariants.{Running, Waiting as Waits, Halted as IsHalted}
use Rattle.avm_outside.specs.Feed as feed
use Rattle.avm_outside.specs.Outlet.{Piece}
use Rattle.honest_model.specs.KeepPages.{IsHeader}
use Rattle.honest_model.specs.Keeps.{IsOpened}
use Rattle.journal_model.specs.Fits.{FitsJournal}
use Rattle.journal_model.specs.Journal.{Is, JournalData, journal_of, with_record}
use Rattle.journal_model.specs.Part.{Part}
use Rattle.jrnl_store.specs.declared.fault.Stop.{Stop}
use Rattle.jrnl_store.specs.declared.fault.Stop.TheVariants.{LeavesSpent, Full, DiskFault, OutletFault, FeedFault}
use Rattle.life_model.specs.Life.{opened}
use Rattle.record_kept.specs.declared.kept.KeptRow.{KeptRow}
use Rattle.record_model.proofs.Standing.{standing_moved}
use Rattle.record_model.specs.Recorded.{act_of}
use Rattle.record_model.specs.Recording.{Act, AnswerClock, Effect, Recording, StepOn, finished, sealed, with_seal}
use Rattle.record_model.specs.Released.{Sender}
use Rattle.record_model.specs.Turn as turn
use Rattle.record_model.specs.Turn.{Gift, IsPlan, IsPlanBefore, IsPlanOf, IsPlanRunning, Plan, doing, idling}
use Rattle.record_parts.specs.Ends.{EndsAs, Faults, SealsAs}
use Rattle.record_parts.specs.declared.answers.Sealed.{Sealed}
use Rattle.record_parts.specs.declared.answers.Turn.{Turn}
use Rattle.record_store.specs.Saving.{StandsWith}
use Rattle.record_turn.specs.Keeping.{Aside, MarksTell}
use Rattle.record_turn.specs.Leaves.{Acted, Seals as SealsSo}
use Rattle.recorder.specs.Turns.{Does, Planned}
use Rattle.truth_laws.proofs.Acts.{act_leaves}
use Rattle.world_turns.proofs.Fitting.{act_fits}
use Rattle.truth_laws.specs.Truth.{IsTrue}
use Rattle.world_laws.specs.Events.{AsSaved, IsReopened, SignsFor, WithBatch}
use Rattle.world_laws.specs.Network.{Acting, Acts, Begins, BeginsSeal, Happens, Moves, Reopens, Seals, TakesReleased}
use Rattle.world_parts.specs.Holding.{with_piece}
use Rattle.world_turns.specs.Comes.{BringsReleased, Comes, GivesReleased, Stays, Then, Turns, leaves_all}

-- ---- what a plan's act takes in

act_one : (plan : Plan) (n : ℕ) (x act : Act) → plan ≡ doing n x → plan.act ≡ Some act → x ≡ act
act_one plan n x act e q = let both : Some x ≡ Some act = ap (λ (p : Plan). p.act) (sym e) ∙ q in cc

no_act : (plan : Plan) (act : Act) → plan.act ≡ None → plan.act ≡ Some act → ⊥
no_act plan act e q = absurd (let both : None ≡ Some act = sym e ∙ q in cc both)

event_takes : (pool : List Piece) (what : feed.Event) → BringsReleased pool what → TakesReleased pool (act_of what)
event_takes pool (feed.console bytes) b = inr refl
event_takes pool (feed.packet bytes) b = inl (b.0, bytes, b.1, refl)
event_takes pool (feed.resend peer) b = inr refl

plan_takes : (pool : List Piece) (g : Gift) (value : ℕ) (s : State) (plan : Plan) (act : Act) (b : Bool) → GivesReleased pool g → IsPlan b g value s plan → plan.act ≡ Some act → TakesReleased pool act
plan_takes pool g value s plan act true r p q = subst (λ (x : Act). TakesReleased pool x) (act_one plan 0 StepOn act p q) (inr refl)
plan_takes pool (turn.Comes what) value s plan act false r p q = subst (λ (x : Act). TakesReleased pool x) (act_one plan 0 (act_of what) act p q) (event_takes pool what r)
plan_takes pool (turn.Later c) value s plan act false r p q = by s.status p
  where
    running : (b : Bool) → IsPlanRunning b c value s plan → TakesReleased pool act
    running true p = subst (λ (x : Act). TakesReleased pool x) (act_one plan 0 (AnswerClock value) act p q) (inr refl)
    running false p = subst (λ (x : Act). TakesReleased pool x) (act_one plan p.0 StepOn act p.2 q) (inr refl)

    by : (st : Status) → IsPlanBefore st c value s plan → TakesReleased pool act
    by Running p = running (asks s) p
    by Waits p = absurd (no_act plan act (ap (λ (x : Plan). x.act) p) q)
    by IsHalted p = absurd (no_act plan act (ap (λ (x : Plan). x.act) p) q)
plan_takes pool turn.Over value s plan act false r p q = absurd (no_act plan act (ap (λ (x : Plan). x.act) p) q)

-- ---- openings

same_journal : (i j : JournalData) → Is i ≡ Is j → i ≡ j
same_journal i j e = cc

reopened : (r : Recording) (j : JournalData) (flight : List Part) (image : List ℕ) (m : JournalData) → r.journal ≡ j → flight ≡ r.batch → StandsWith j flight image → journal_of image ≡ Is m → IsReopened r m
reopened r j flight image m journal batch (inl e) is = AsSaved (same_journal m j (sym is ∙ e) ∙ sym journal)
reopened r j flight image m journal batch (inr e) is = WithBatch (same_journal m (with_record j flight) (sym is ∙ e) ∙ rw (← journal, batch) refl)

-- ---- one happening more

then_ : (pool : List Piece) (who : Sender) (r q t : Recording) (ps : List Piece) → Comes pool who r q [] → Happens pool (record { who = who; recording = q }) t ps → Comes pool who r t ps
then_ pool who r q t ps c h = Then r q t [] ps c (subst (λ (xs : List Piece). Happens xs (record { who = who; recording = q }) t ps) (sym (append-nil pool)) h)

abbrev moved_to : Recording → State → Recording
moved_to r s = record r { machine = s }

-- what stands of an act when it is made
record Made (pool : List Piece) (who : Sender) (r : Recording) (act : Act) (at : State) (e : Effect) : Type 0 where
  first : Comes pool who r (moved_to r at) []
  acting : Acting pool (record { who = who; recording = moved_to r at }) act e
  journal : e.recording.journal ≡ r.journal

made : (pool : List Piece) (who : Sender) (quiet : ℕ) (act : Act) (r : Recording) (a : HeadData) (aside after : Aside) (batch : List Part) (machine : State) (f : Faults) (old new : List (ℕ × List ℕ)) (result : Result Turn Stop) (next : JournalData) (flight : List Part)
    → FitsJournal r.journal → IsHeader r.journal.header a → IsTrue r → MarksTell r.journal r.batch aside.ram → TakesReleased pool act
    → (d : Acted with_piece leaves_all who quiet act r aside after batch machine f old new result next flight) → Made pool who r act d.acts.at d.acts.effect
made pool who quiet act r a aside after batch machine f old new result next flight w head h m takes d =
    let r1 : Recording = moved_to r d.acts.at in
    let true1 : IsTrue r1 = record { standing = standing_moved r quiet d.acts.at h.standing d.acts.moved_to; goes_on = h.goes_on; keeps = h.keeps; snaps = h.snaps } in
    let l = act_leaves who r1 a act d.acts.pages d.acts.effect aside.ram after.ram w head true1 m d.acts.effect_is d.keeps in
    record {
      first = then_ pool who r r r1 [] (Stays r) (Moves quiet d.acts.at d.acts.moved_to refl refl);
      acting = record {
        pages = d.acts.pages;
        fits = act_fits r1 act d.acts.pages d.acts.effect aside.ram after.ram d.keeps;
        effect_is = d.acts.effect_is;
        keeps = l.now.keeps;
        takes = takes;
      };
      journal = l.journal;
    }

act_ends : (pool : List Piece) (who : Sender) (r : Recording) (act : Act) (at : State) (e : Effect) (q : Recording) (f : Faults) (old new : List (ℕ × List ℕ)) (result : Result Turn Stop) → Made pool who r act at e → SignsFor who q → EndsAs with_piece leaves_all who e q f old new result → Turns pool who r q old new
act_ends pool who r act at e q f old new (Ok x) k signs h = record {
  pieces = (finished who e).pieces;
  held = h.2;
  comes = then_ pool who r (moved_to r at) q (finished who e).pieces k.first (Acts act e k.acting signs (record { recording = h.1; rest = []; front = sym (append-nil (finished who e).pieces) }));
}
act_ends pool who r act at e q f old new (Err LeavesSpent) k signs h = record { pieces = []; held = h.2; comes = then_ pool who r (moved_to r at) q [] k.first (Begins act e k.acting h.1 refl) }
act_ends pool who r act at e q f old new (Err Full) k signs h = record { pieces = []; held = h.2; comes = then_ pool who r (moved_to r at) q [] k.first (Begins act e k.acting h.1 refl) }
act_ends pool who r act at e q f old new (Err DiskFault) k signs h = record { pieces = []; held = h.1; comes = then_ pool who r (moved_to r at) q [] k.first (Begins act e k.acting h.0 refl) }
act_ends pool who r act at e q f old new (Err OutletFault) k signs h = record {
  pieces = h.2.before;
  held = h.2.new_is;
  comes = then_ pool who r (moved_to r at) q h.2.before k.first (Acts act e k.acting signs (record { recording = h.1; rest = h.2.cut ∷ h.2.behind; front = h.2.split }));
}
act_ends pool who r act at e q f old new (Err FeedFault) k signs h = absurd h

-- ---- turns

abbrev recording : JournalData → List Part → State → Recording
recording j b s = record { journal = j; batch = b; machine = s }

pub turn_comes : (pool : List Piece) (who : Sender) (g : Gift) (value : ℕ) (r : Recording) (a : HeadData) (aside after : Aside) (batch : List Part) (machine : State) (f : Faults) (old new : List (ℕ × List ℕ)) (result : Result Turn Stop) (next : JournalData) (flight : List Part)
    → FitsJournal r.journal → IsHeader r.journal.header a → IsTrue r → MarksTell r.journal r.batch aside.ram → GivesReleased pool g → SignsFor who (recording next batch machine)
    → Planned with_piece leaves_all who g value r aside after batch machine f old new result next flight → Turns pool who r (recording next batch machine) old new
turn_comes pool who g value r a aside after batch machine f old new result next flight w head h m gives signs p = go p.plan.act refl p.does
  where
    go : (o : Option Act) → p.plan.act ≡ o → Does with_piece leaves_all who p.plan o r aside after batch machine f old new result next flight → Turns pool who r (recording next batch machine) old new
    go None e d = record {
      pieces = [];
      held = d.held;
      comes = let same : r ≡ recording next batch machine = rw (d.journal, d.batch_is, d.machine_is) refl in subst (λ (x : Recording). Comes pool who r x []) same (Stays r);
    }
    go (Some act) e d =
        let k = made pool who p.plan.quiet act r a aside after batch machine f old new result next flight w head h m (plan_takes pool g value r.machine p.plan act (is_some r.machine.devices.clock) gives p.plan_is e) d in
        act_ends pool who r act d.acts.at d.acts.effect (recording next batch machine) f old new result k signs d.acts.ends

pub turn_crashes : (pool : List Piece) (who : Sender) (g : Gift) (value : ℕ) (r : Recording) (a : HeadData) (aside after : Aside) (batch : List Part) (machine : State) (f : Faults) (old new : List (ℕ × List ℕ)) (result : Result Turn Stop) (next : JournalData) (flight : List Part) (image : List ℕ) (m : JournalData) (to : State)
    → FitsJournal r.journal → IsHeader r.journal.header a → IsTrue r → MarksTell r.journal r.batch aside.ram → GivesReleased pool g
    → Planned with_piece leaves_all who g value r aside after batch machine f old new result next flight
    → StandsWith r.journal flight image → journal_of image ≡ Is m → IsOpened m to → Comes pool who r (opened m to) []
turn_crashes pool who g value r a aside after batch machine f old new result next flight image m to w head h marks gives p stands is opens = go p.plan.act refl p.does
  where
    go : (o : Option Act) → p.plan.act ≡ o → Does with_piece leaves_all who p.plan o r aside after batch machine f old new result next flight → Comes pool who r (opened m to) []
    go None e d = then_ pool who r r (opened m to) [] (Stays r) (Reopens m to (record { reopened = reopened r r.journal flight image m refl d.in_flight stands is; opened_is = opens }) refl refl)
    go (Some act) e d =
        let k = made pool who p.plan.quiet act r a aside after batch machine f old new result next flight w head h marks (plan_takes pool g value r.machine p.plan act (is_some r.machine.devices.clock) gives p.plan_is e) d in
        let two = then_ pool who r (moved_to r d.acts.at) d.acts.effect.recording [] k.first (Begins act d.acts.effect k.acting refl refl) in
        then_ pool who r d.acts.effect.recording (opened m to) [] two (Reopens m to (record { reopened = reopened d.acts.effect.recording r.journal flight image m k.journal d.in_flight stands is; opened_is = opens }) refl refl)

-- ---- seals

seal_ends : (pool : List Piece) (who : Sender) (r q : Recording) (f : Faults) (old new : List (ℕ × List ℕ)) (result : Result Sealed Stop) → SignsFor who q → SealsAs with_piece leaves_all who r q f old new result → Turns pool who r q old new
seal_ends pool who r q f old new (Ok x) signs h = record {
  pieces = (sealed who r).pieces;
  held = h.2;
  comes = then_ pool who r r q (sealed who r).pieces (Stays r) (Seals signs (record { recording = h.1; rest = []; front = sym (append-nil (sealed who r).pieces) }));
}
seal_ends pool who r q f old new (Err LeavesSpent) signs h = record { pieces = []; held = h.2; comes = then_ pool who r r q [] (Stays r) (BeginsSeal h.1 refl) }
seal_ends pool who r q f old new (Err Full) signs h = record { pieces = []; held = h.2; comes = then_ pool who r r q [] (Stays r) (BeginsSeal h.1 refl) }
seal_ends pool who r q f old new (Err DiskFault) signs h = record { pieces = []; held = h.1; comes = then_ pool who r r q [] (Stays r) (BeginsSeal h.0 refl) }
seal_ends pool who r q f old new (Err OutletFault) signs h = record {
  pieces = h.2.before;
  held = h.2.new_is;
  comes = then_ pool who r r q h.2.before (Stays r) (Seals signs (record { recording = h.1; rest = h.2.cut ∷ h.2.behind; front = h.2.split }));
}
seal_ends pool who r q f old new (Err FeedFault) signs h = absurd h

pub seal_comes : (pool : List Piece) (who : Sender) (r : Recording) (rows : List KeptRow) (batch : List Part) (f : Faults) (old new : List (ℕ × List ℕ)) (result : Result Sealed Stop) (next : JournalData) (flight : List Part)
    → SignsFor who (recording next batch r.machine) → SealsSo with_piece leaves_all who r rows batch f old new result next flight → Turns pool who r (recording next batch r.machine) old new
seal_comes pool who r rows batch f old new result next flight signs s = seal_ends pool who r (recording next batch r.machine) f old new result signs s.ends

pub seal_crashes : (pool : List Piece) (who : Sender) (r : Recording) (rows : List KeptRow) (batch : List Part) (f : Faults) (old new : List (ℕ × List ℕ)) (result : Result Sealed Stop) (next : JournalData) (flight : List Part) (image : List ℕ) (m : JournalData) (to : State)
    → SealsSo with_piece leaves_all who r rows batch f old new result next flight → StandsWith r.journal flight image → journal_of image ≡ Is m → IsOpened m to → Comes pool who r (opened m to) []
seal_crashes pool who r rows batch f old new result next flight image m to s stands is opens =
    let one = then_ pool who r r (with_seal r) [] (Stays r) (BeginsSeal refl refl) in
    then_ pool who r (with_seal r) (opened m to) [] one (Reopens m to (record { reopened = reopened (with_seal r) r.journal flight image m refl s.in_flight stands is; opened_is = opens }) refl refl)
