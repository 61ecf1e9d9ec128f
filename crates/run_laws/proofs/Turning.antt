-- A turn whose feed is a script's makes a turn of the script's run.
use Rattle.std.proofs.Common.{◌≡◌, ◌⊎◌, inl, inr, ℕ, Bool, true, false, List, [], ◌∷◌, ◌++◌, Option, None, Some, refl, sym, ap, subst, ◌∙◌, append-nil}
use Rattle.std.specs.Prelude.{is_some, if◌then◌else◌, Result, Ok, Err, ◌||◌, not, nat_le}
use Rattle.avm_num.specs.Bytes.{◌>>=◌}
use Rattle.std.specs.Option.{option_map}
use Rattle.avm_model.specs.Machine.{State, asks, is_running}
use Rattle.avm_model.specs.Rerun.{moved}
use Rattle.avm_model.specs.Offer.{Offer, OfferClock, refuse_packet}
use Rattle.avm_model.specs.Reference.{Made, step_of, take_of, timed}
use Rattle.avm_model.specs.declared.NotTaken.{NotTaken}
use Rattle.avm_model.specs.declared.Status.{Status}
use Rattle.avm_model.specs.declared.Status.TheVariants.{Running, Waiting as Waits, Halted as IsHalted}
use Rattle.avm_outside.specs.Feed.{Agenda, Timed, answer_of, clock_of}
use Rattle.avm_outside.specs.Outlet.{Piece}
use Rattle.journal_model.specs.Journal.{JournalData}
use Rattle.journal_model.specs.Part.{Part}
use Rattle.journal_model.specs.Saving.{CommitRefusal, NoLeaf, NoRoom, commit_refusal}
use Rattle.record_laws.specs.Turns.{at_machine}
use Rattle.record_laws.proofs.Moving.{later}
use Rattle.record_laws.proofs.Turning.{over_is_end}
use Rattle.jrnl_store.specs.declared.fault.Stop.{Stop}
use Rattle.record_model.specs.Recorded.{Drop, Run, act_of, drops_of, ran}
use Rattle.record_model.specs.Recording.{Act, AnswerClock, Done, Effect, Recording, SendAgain, StepOn, TakeIn, closed, closed_by, dropped_for, effect, finished, given_at as given_offer, is_large, sent_again, stepped_on, take_in, taken_in, with_input, with_step}
use Rattle.record_model.specs.Released.{Sender}
use Rattle.record_model.specs.Turn.{Answer, Waiting as Ways, Halted as HaltedNow, End as EndNow, Comes, Gift, IsPlan, IsPlanBefore, IsPlanOf, IsPlanRunning, Later, Over, Plan, answer_for, behind_turn, doing, gift_at, gift_of, idling}
use Rattle.record_parts.specs.Ends.{EndsAs, Faults, turn_of}
use Rattle.record_parts.specs.declared.answers.Turn.{Turn}
use Rattle.record_turn.specs.Keeping.{Aside}
use Rattle.record_turn.specs.Leaves.{Acted}
use Rattle.recorder.specs.Turns.{Does, Feeds, Idle, IsValue, Planned, act_before, act_by, act_for, behind}
use Rattle.turn_laws.proofs.Following.{gift_is}
use Rattle.run_laws.specs.Run.{Behind, IsOver, Stands, StopsRun, dropped_by, stop_of}

-- ---- the turn

acts_as : (plan : Plan) (quiet : ℕ) (act other : Act) → plan ≡ doing quiet act → plan.act ≡ Some other → act ≡ other
acts_as plan quiet act other e h = let e' : Some act ≡ Some other = sym (ap (λ (q : Plan). q.act) e) ∙ h in cc e'

no_act : (plan : Plan) (turn : Answer) (other : Act) → plan ≡ idling turn → plan.act ≡ Some other → ⊥
no_act plan turn other e h = absurd (let e' : None ≡ Some other = sym (ap (λ (q : Plan). q.act) e) ∙ h in cc e')

-- the act of a plan is the one that the gift leads to
pub plan_act : (pending : Bool) (g : Gift) (value : ℕ) (s : State) (plan : Plan) (act : Act) → IsPlan pending g value s plan → plan.act ≡ Some act → act_for pending g value s ≡ Some act
plan_act true g value s plan act p h = ap Some (acts_as plan 0 StepOn act p h)
plan_act false (Comes what) value s plan act p h = ap Some (acts_as plan 0 (act_of what) act p h)
plan_act false (Later c) value s plan act p h = by_status s.status p
  where
    by_asks : (b : Bool) → IsPlanRunning b c value s plan → act_before Running b value ≡ Some act
    by_asks true q = ap Some (acts_as plan 0 (AnswerClock value) act q h)
    by_asks false q = ap Some (acts_as plan q.0 StepOn act q.2 h)

    by_status : (status : Status) → IsPlanBefore status c value s plan → act_before status (asks s) value ≡ Some act
    by_status Running q = by_asks (asks s) q
    by_status Waits q = absurd (no_act plan Ways act q h)
    by_status IsHalted q = absurd (no_act plan HaltedNow act q h)
plan_act false Over value s plan act p h = absurd (no_act plan EndNow act p h)

-- where the act is no step, the steps in front of it are none
pub quiet_none : (pending : Bool) (g : Gift) (value : ℕ) (s : State) (plan : Plan) (act : Act) → IsPlan pending g value s plan → plan.act ≡ Some act → (act ≡ StepOn → ⊥) → plan.quiet ≡ 0
quiet_none true g value s plan act p h other = ap (λ (q : Plan). q.quiet) p
quiet_none false (Comes what) value s plan act p h other = ap (λ (q : Plan). q.quiet) p
quiet_none false (Later c) value s plan act p h other = by_status s.status p
  where
    by_asks : (b : Bool) → IsPlanRunning b c value s plan → plan.quiet ≡ 0
    by_asks true q = ap (λ (q : Plan). q.quiet) q
    by_asks false q = absurd (other (sym (acts_as plan q.0 StepOn act q.2 h)))

    by_status : (status : Status) → IsPlanBefore status c value s plan → plan.quiet ≡ 0
    by_status Running q = by_asks (asks s) q
    by_status Waits q = absurd (no_act plan Ways act q h)
    by_status IsHalted q = absurd (no_act plan HaltedNow act q h)
quiet_none false Over value s plan act p h other = absurd (no_act plan EndNow act p h)

-- the plan by what the feed gave is the plan by what the script says
script_before : (status : Status) (c value : ℕ) (s : State) (p : Agenda) (plan : Plan) → IsPlanBefore status c value s plan → IsValue (act_before status (asks s) value) p → IsPlanBefore status c (clock_of p) s plan
script_before Running c value s p plan q v = go (asks s) q v
  where
    go : (b : Bool) → IsPlanRunning b c value s plan → IsValue (act_before Running b value) p → IsPlanRunning b c (clock_of p) s plan
    go true q v = q ∙ ap (λ (n : ℕ). doing 0 (AnswerClock n)) v
    go false q v = q
script_before Waits c value s p plan q v = q
script_before IsHalted c value s p plan q v = q

script_of : (g : Gift) (value : ℕ) (s : State) (p : Agenda) (plan : Plan) → IsPlanOf g value s plan → IsValue (act_by g value s) p → IsPlanOf g (clock_of p) s plan
script_of (Comes what) value s p plan q v = q
script_of (Later c) value s p plan q v = script_before s.status c value s p plan q v
script_of Over value s p plan q v = q

pub script_plan : (pending : Bool) (g : Gift) (value : ℕ) (s : State) (p script : Agenda) (plan : Plan) → Feeds pending answer_of s g value p script → IsPlan pending g value s plan → IsPlan pending (gift_of s p) (clock_of p) s plan
script_plan true g value s p script plan f q = q
script_plan false g value s p script plan f q = subst (λ (x : Gift). IsPlanOf x (clock_of p) s plan) (gift_is s g p f.given) (script_of g value s p plan q f.value_is)

pub script_left : (pending : Bool) (g : Gift) (value : ℕ) (s : State) (p script : Agenda) (act : Act) → Feeds pending answer_of s g value p script → act_for pending g value s ≡ Some act → behind_turn pending (gift_of s p) act p ≡ script
script_left true g value s p script act f e = sym f.left
script_left false g value s p script act f e =
    ap (λ (x : Gift). behind_turn false x act p) (sym (gift_is s g p f.given)) ∙ sym (f.left ∙ ap (λ (o : Option Act). behind false g o p) e)

-- ---- what was dropped

closed_none : (who : Sender) (r : Recording) (o : Option CommitRefusal) → (closed_by who r o).dropped ≡ None
closed_none who r None = refl
closed_none who r (Some why) = refl

abbrev finished_by : Sender → Effect → Bool → Done
finished_by who e b = if b then closed who e.recording else record { recording = e.recording; pieces = e.again; dropped = e.dropped; stop = None }

finished_none : (who : Sender) (e : Effect) → e.dropped ≡ None → (finished who e).dropped ≡ None
finished_none who e none = go e.closes
  where
    go : (b : Bool) → (finished_by who e b).dropped ≡ None
    go true = closed_none who e.recording (commit_refusal e.recording.journal e.recording.batch)
    go false = none

step_none : (r : Recording) (pages : List ℕ) (o : Option (State × List Made)) (e : Effect) → option_map (with_step r pages) o ≡ Some e → e.dropped ≡ None
step_none r pages None e h = absurd cc
step_none r pages (Some step) e h = let is : with_step r pages step ≡ e = cc in ap (λ (x : Effect). x.dropped) (sym is)

clock_none : (who : Sender) (r : Recording) (pages : List ℕ) (value : ℕ) (o : Option State) (e : Effect) → (o >>= λ s. stepped_on (with_input r (OfferClock value) s) pages) ≡ Some e → e.dropped ≡ None
clock_none who r pages value None e h = absurd cc
clock_none who r pages value (Some t) e h = step_none (with_input r (OfferClock value) t) pages (step_of (with_input r (OfferClock value) t).machine) e h

nothing_told : (s : State) (d : Option NotTaken) → d ≡ None → drops_of s d ≡ []
nothing_told s None e = refl
nothing_told s (Some why) e = absurd cc

taken_told : (who : Sender) (r : Recording) (quiet count : ℕ) (offer : Option Offer) (why : Option NotTaken) (e : Effect) (turn : Turn) → r.machine.count ≡ count → take_in who r offer why ≡ Some e → turn ≡ turn_of (answer_for quiet (TakeIn offer) e.dropped)
    → drops_of r.machine (finished who e).dropped ≡ dropped_by count turn
taken_told who r quiet count offer (Some why) e turn at h answer =
    let is : dropped_for who r offer why ≡ e = cc in
    let t : turn ≡ turn_of (answer_for quiet (TakeIn offer) (Some why)) = answer ∙ ap (λ (x : Effect). turn_of (answer_for quiet (TakeIn offer) x.dropped)) (sym is) in
    ap (λ (x : Effect). drops_of r.machine (finished who x).dropped) (sym is) ∙ ap (λ (n : ℕ). record { why = why; count = n } ∷ []) at ∙ sym (ap (dropped_by count) t)
taken_told who r quiet count None None e turn at h answer = absurd cc
taken_told who r quiet count (Some o) None e turn at h answer =
    let is : taken_in r o ≡ e = cc in
    let none : e.dropped ≡ None = ap (λ (x : Effect). x.dropped) (sym is) in
    let t : turn ≡ turn_of (answer_for quiet (TakeIn (Some o)) None) = answer ∙ ap (λ (x : Option NotTaken). turn_of (answer_for quiet (TakeIn (Some o)) x)) none in
    nothing_told r.machine (finished who e).dropped (finished_none who e none) ∙ sym (ap (dropped_by count) t)

sent_told : (who : Sender) (r : Recording) (quiet count peer : ℕ) (d : Option NotTaken) (e : Effect) (turn : Turn) → r.machine.count ≡ count → (sent_again who r peer).dropped ≡ d → sent_again who r peer ≡ e → turn ≡ turn_of (answer_for quiet (SendAgain peer) e.dropped)
    → drops_of r.machine (finished who e).dropped ≡ dropped_by count turn
sent_told who r quiet count peer (Some why) e turn at q is answer =
    let t : turn ≡ turn_of (answer_for quiet (SendAgain peer) (Some why)) = answer ∙ ap (λ (x : Effect). turn_of (answer_for quiet (SendAgain peer) x.dropped)) (sym is) ∙ ap (λ (x : Option NotTaken). turn_of (answer_for quiet (SendAgain peer) x)) q in
    ap (λ (x : Effect). drops_of r.machine (finished who x).dropped) (sym is) ∙ ap (drops_of r.machine) q ∙ ap (λ (n : ℕ). record { why = why; count = n } ∷ []) at ∙ sym (ap (dropped_by count) t)
sent_told who r quiet count peer None e turn at q is answer =
    let t : turn ≡ turn_of (answer_for quiet (SendAgain peer) None) = answer ∙ ap (λ (x : Effect). turn_of (answer_for quiet (SendAgain peer) x.dropped)) (sym is) ∙ ap (λ (x : Option NotTaken). turn_of (answer_for quiet (SendAgain peer) x)) q in
    ap (λ (x : Effect). drops_of r.machine (finished who x).dropped) (sym is) ∙ ap (drops_of r.machine) q ∙ sym (ap (dropped_by count) t)

-- what a turn tells of a drop is what the run has; an act that is no step is done where the turn began
pub drop_told : (who : Sender) (r : Recording) (pages : List ℕ) (quiet count : ℕ) (act : Act) (e : Effect) (turn : Turn) → ((act ≡ StepOn → ⊥) → r.machine.count ≡ count) → effect who pages r act ≡ Some e → turn ≡ turn_of (answer_for quiet act e.dropped)
    → drops_of r.machine (finished who e).dropped ≡ dropped_by count turn
drop_told who r pages quiet count StepOn e turn at h answer =
    nothing_told r.machine (finished who e).dropped (finished_none who e (step_none r pages (step_of r.machine) e h)) ∙ sym (ap (dropped_by count) answer)
drop_told who r pages quiet count (AnswerClock value) e turn at h answer =
    nothing_told r.machine (finished who e).dropped (finished_none who e (clock_none who r pages value (take_of r.machine (given_offer r.machine (OfferClock value))) e h)) ∙ sym (ap (dropped_by count) answer)
drop_told who r pages quiet count (TakeIn offer) e turn at h answer =
    taken_told who r quiet count offer (refuse_packet r.machine offer) e turn (at (λ q. absurd cc)) h answer
drop_told who r pages quiet count (SendAgain peer) e turn at h answer =
    sent_told who r quiet count peer (sent_again who r peer).dropped e turn (at (λ q. absurd cc)) refl (let is : sent_again who r peer ≡ e = cc in is) answer

-- ---- a turn that makes no act

false_or : (a b : Bool) → (a || b) ≡ false → b ≡ false
false_or true b e = absurd cc
false_or false b e = e

true_not : (b : Bool) → not b ≡ false → b ≡ true
true_not true e = refl
true_not false e = absurd cc

-- a script gives no count to a machine that doesn't run
later_runs : (s : State) (p : Agenda) (es : List Timed) (c : ℕ) → gift_at s p es ≡ Later c → is_running s.status ≡ true
later_runs s p es c l = true_not (is_running s.status) (false_or (nat_le c s.count) (not (is_running s.status)) (later p es c s l).not_due)

not_running : (s : State) (status : Status) → s.status ≡ status → (is_running status ≡ false) → is_running s.status ≡ true → ⊥
not_running s status e f t = absurd (let q : true ≡ false = sym t ∙ ap is_running e ∙ f in cc q)

-- a plan without an act ends the run
idle_over : (g : Gift) (value : ℕ) (s : State) (p : Agenda) (plan : Plan) → g ≡ gift_of s p → IsPlanOf g value s plan → plan.act ≡ None → (plan.idle ≡ EndNow) × (gift_of s p ≡ Over)
idle_over (Comes what) value s p plan same q h = absurd (let e : Some (act_of what) ≡ None = sym (ap (λ (x : Plan). x.act) q) ∙ h in cc e)
idle_over Over value s p plan same q h = (ap (λ (x : Plan). x.idle) q, sym same)
idle_over (Later c) value s p plan same q h = by_status s.status refl q
  where
    by_asks : (b : Bool) → IsPlanRunning b c value s plan → (plan.idle ≡ EndNow) × (gift_of s p ≡ Over)
    by_asks true k = absurd (let e : Some (AnswerClock value) ≡ None = sym (ap (λ (x : Plan). x.act) k) ∙ h in cc e)
    by_asks false k = absurd (let e : Some StepOn ≡ None = sym (ap (λ (x : Plan). x.act) k.2) ∙ h in cc e)

    by_status : (status : Status) → s.status ≡ status → IsPlanBefore status c value s plan → (plan.idle ≡ EndNow) × (gift_of s p ≡ Over)
    by_status Running e k = by_asks (asks s) k
    by_status Waits e k = absurd (not_running s Waits e refl (later_runs s p p.events c (sym same)))
    by_status IsHalted e k = absurd (not_running s IsHalted e refl (later_runs s p p.events c (sym same)))

idle_end : (pending : Bool) (g : Gift) (value : ℕ) (s : State) (p script : Agenda) (plan : Plan) → Feeds pending answer_of s g value p script → IsPlan pending g value s plan → plan.act ≡ None → (pending ≡ false) × (plan.idle ≡ EndNow) × (gift_of s p ≡ Over)
idle_end true g value s p script plan f q h = absurd (let e : Some StepOn ≡ None = sym (ap (λ (x : Plan). x.act) q) ∙ h in cc e)
idle_end false g value s p script plan f q h = let o = idle_over g value s p plan (gift_is s g p f.given) q h in (refl, o.0, o.1)

-- nothing of the script is used
idle_left : (pending : Bool) (g : Gift) (value : ℕ) (s : State) (p script : Agenda) (plan : Plan) → Feeds pending answer_of s g value p script → IsPlan pending g value s plan → plan.act ≡ None → p ≡ script
idle_left true g value s p script plan f q h = absurd (let e : Some StepOn ≡ None = sym (ap (λ (x : Plan). x.act) q) ∙ h in cc e)
idle_left false (Comes what) value s p script plan f q h = absurd (let e : Some (act_of what) ≡ None = sym (ap (λ (x : Plan). x.act) q) ∙ h in cc e)
idle_left false Over value s p script plan f q h = sym f.left
idle_left false (Later c) value s p script plan f q h = by_status s.status refl q f.left
  where
    by_asks : (b : Bool) → IsPlanRunning b c value s plan → p ≡ script
    by_asks true k = absurd (let e : Some (AnswerClock value) ≡ None = sym (ap (λ (x : Plan). x.act) k) ∙ h in cc e)
    by_asks false k = absurd (let e : Some StepOn ≡ None = sym (ap (λ (x : Plan). x.act) k.2) ∙ h in cc e)

    by_status : (status : Status) → s.status ≡ status → IsPlanBefore status c value s plan → script ≡ behind false (Later c) (act_before status (asks s) value) p → p ≡ script
    by_status Running e k l = by_asks (asks s) k
    by_status Waits e k l = sym l
    by_status IsHalted e k l = sym l

-- ---- all

abbrev answered : Turn → Result Turn Stop
answered t = Ok t

abbrev stopped : CommitRefusal → Result Turn Stop
stopped why = Err (stop_of why)

same_turn : (a b : Turn) → answered a ≡ answered b → a ≡ b
same_turn a b e = cc

module _ {H : Type 0} (adding : Piece → H → H) (tearing : Piece → H → H → Type 0) (who : Sender) (r : Run) (g : Gift) (value : ℕ) (aside after_aside : Aside) (batch : List Part) (machine : State) (f : Faults) (old new : H) (turn : Turn) (next : JournalData) (flight : List Part) (script : Agenda) where
  pub by_act : (plan : Plan) (act : Act) → plan.act ≡ Some act → r.stop ≡ None → is_large r.recording.batch ≡ false → Feeds (is_some r.recording.machine.devices.clock) answer_of r.recording.machine g value r.script script
      → IsPlan (is_some r.recording.machine.devices.clock) g value r.recording.machine plan → Acted adding tearing who plan.quiet act r.recording aside after_aside batch machine f old new (Ok turn) next flight
      → Behind adding who r turn old new next batch machine script
  by_act plan act is stop small feeds plan_is a =
      let s = r.recording.machine in
      let d = finished who a.acts.effect in
      let left = script_left (is_some s.devices.clock) g value s r.script script act feeds (plan_act (is_some s.devices.clock) g value s plan act plan_is is) in
      let there : (act ≡ StepOn → ⊥) → a.acts.at ≡ s = λ other. (let none : plan.quiet ≡ 0 = quiet_none (is_some s.devices.clock) g value s plan act plan_is is other in
      let moved_none : moved timed 0 s ≡ Some a.acts.at = subst (λ (n : ℕ). moved timed n s ≡ Some a.acts.at) none a.acts.moved_to in
      cc moved_none) in
      record {
        run = ran (at_machine r a.acts.at) (behind_turn (is_some s.devices.clock) (gift_of s r.script) act r.script) d;
        turn_is = record {
          pages = a.acts.pages;
          plan = plan;
          act = act;
          done = d;
          at = a.acts.at;
          goes_on = stop;
          of_script = record {
            small = small;
            is_plan = script_plan (is_some s.devices.clock) g value s r.script script plan feeds plan_is;
            act_is = is;
            quiet = a.acts.moved_to;
            done_is = ap (option_map (finished who)) a.acts.effect_is;
          };
          behind = refl;
        };
        recording = sym a.acts.ends.1;
        script_is = left;
        goes_on = a.acts.ends.0;
        pieces = d.pieces;
        released = refl;
        held = a.acts.ends.2;
        drops = ap (λ (ds : List Drop). r.drops ++ ds) (drop_told who (record r.recording { machine = a.acts.at }) a.acts.pages plan.quiet s.count act a.acts.effect turn (λ other. ap (λ (t : State). t.count) (there other)) a.acts.effect_is a.acts.answer);
      }

  pub by_none : (plan : Plan) → plan.act ≡ None → r.stop ≡ None → Feeds (is_some r.recording.machine.devices.clock) answer_of r.recording.machine g value r.script script
      → IsPlan (is_some r.recording.machine.devices.clock) g value r.recording.machine plan → Idle plan.idle r.recording aside after_aside batch machine old new (Ok turn) next flight
      → Stands r turn old new next batch machine script
  by_none plan is stop feeds plan_is i =
      let s = r.recording.machine in
      let o = idle_end (is_some s.devices.clock) g value s r.script script plan feeds plan_is is in
      let t : turn ≡ turn_of EndNow = same_turn turn (turn_of plan.idle) i.answer ∙ ap turn_of o.1 in
      record {
        over = subst IsOver (sym t) tt;
        ended = record { stop = stop; over = over_is_end s r.script o.0 o.2 };
        recording = stays i.journal i.batch_is i.machine_is;
        script_is = idle_left (is_some s.devices.clock) g value s r.script script plan feeds plan_is is;
        held = i.held;
      }
    where
      stays : next ≡ r.recording.journal → batch ≡ r.recording.batch → machine ≡ r.recording.machine → r.recording ≡ record { journal = next; batch = batch; machine = machine }
      stays j b m = sym (ap (λ (x : JournalData). record { journal = x; batch = batch; machine = machine }) j ∙ ap (λ (x : List Part). record { journal = r.recording.journal; batch = x; machine = machine }) b ∙ ap (λ (x : State). record { journal = r.recording.journal; batch = r.recording.batch; machine = x }) m)

  pub turned : r.stop ≡ None → is_large r.recording.batch ≡ false → Feeds (is_some r.recording.machine.devices.clock) answer_of r.recording.machine g value r.script script
      → Planned adding tearing who g value r.recording aside after_aside batch machine f old new (Ok turn) next flight → Behind adding who r turn old new next batch machine script ⊎ Stands r turn old new next batch machine script
  turned stop small feeds p = go p.plan.act refl p.does
    where
      go : (act : Option Act) → p.plan.act ≡ act → Does adding tearing who p.plan act r.recording aside after_aside batch machine f old new (Ok turn) next flight → Behind adding who r turn old new next batch machine script ⊎ Stands r turn old new next batch machine script
      go (Some act) is a = inl (by_act p.plan act is stop small feeds p.plan_is a)
      go None is i = inr (by_none p.plan is stop feeds p.plan_is i)

-- ---- a batch that can't be saved

-- nothing is released then, and the recording is the effect's
pub record IsCut (who : Sender) (e : Effect) : Type 0 where
  pub recording : (finished who e).recording ≡ e.recording
  pub pieces : (finished who e).pieces ≡ []
  pub dropped : (finished who e).dropped ≡ None

cut_by : (who : Sender) (e : Effect) (why : CommitRefusal) → (finished who e).stop ≡ Some why → IsCut who e
cut_by who e why stop = go e.closes refl (commit_refusal e.recording.journal e.recording.batch) refl
  where
    go : (b : Bool) → e.closes ≡ b → (o : Option CommitRefusal) → commit_refusal e.recording.journal e.recording.batch ≡ o → IsCut who e
    go true c (Some w) q = record { recording = rw (c, q) refl; pieces = rw (c, q) refl; dropped = rw (c, q) refl }
    go true c None q = absurd (let h : (finished who e).stop ≡ None = rw (c, q) refl in let k : Some why ≡ None = sym stop ∙ h in cc k)
    go false c o q = absurd (let h : (finished who e).stop ≡ None = rw c refl in let k : Some why ≡ None = sym stop ∙ h in cc k)

-- what an act that can't be saved leaves
cut_ends : {H : Type 0} (adding : Piece → H → H) (tearing : Piece → H → H → Type 0) (who : Sender) (e : Effect) (r : Recording) (f : Faults) (old new : H) (why : CommitRefusal) → EndsAs {T = Turn} adding tearing who e r f old new (Err (stop_of why))
    → ((finished who e).stop ≡ Some why) × (r ≡ e.recording) × (new ≡ old)
cut_ends adding tearing who e r f old new NoLeaf h = h
cut_ends adding tearing who e r f old new NoRoom h = h

not_idle : (why : CommitRefusal) (idle : Answer) → stopped why ≡ answered (turn_of idle) → ⊥
not_idle NoLeaf idle e = absurd (cc e)
not_idle NoRoom idle e = absurd (cc e)

module _ {H : Type 0} (adding : Piece → H → H) (tearing : Piece → H → H → Type 0) (who : Sender) (r : Run) (g : Gift) (value : ℕ) (aside after_aside : Aside) (batch : List Part) (machine : State) (f : Faults) (old new : H) (why : CommitRefusal) (next : JournalData) (flight : List Part) (script : Agenda) where
  pub cut_act : (plan : Plan) (act : Act) → plan.act ≡ Some act → r.stop ≡ None → is_large r.recording.batch ≡ false → Feeds (is_some r.recording.machine.devices.clock) answer_of r.recording.machine g value r.script script
      → IsPlan (is_some r.recording.machine.devices.clock) g value r.recording.machine plan → Acted adding tearing who plan.quiet act r.recording aside after_aside batch machine f old new (stopped why) next flight
      → StopsRun who r why old new next batch machine script
  cut_act plan act is stop small feeds plan_is a =
      let s = r.recording.machine in
      let d = finished who a.acts.effect in
      let ends = cut_ends adding tearing who a.acts.effect (record { journal = next; batch = batch; machine = machine }) f old new why a.acts.ends in
      let cut = cut_by who a.acts.effect why ends.0 in
      record {
        run = ran (at_machine r a.acts.at) (behind_turn (is_some s.devices.clock) (gift_of s r.script) act r.script) d;
        turn_is = record {
          pages = a.acts.pages;
          plan = plan;
          act = act;
          done = d;
          at = a.acts.at;
          goes_on = stop;
          of_script = record {
            small = small;
            is_plan = script_plan (is_some s.devices.clock) g value s r.script script plan feeds plan_is;
            act_is = is;
            quiet = a.acts.moved_to;
            done_is = ap (option_map (finished who)) a.acts.effect_is;
          };
          behind = refl;
        };
        recording = cut.recording ∙ sym ends.1;
        script_is = script_left (is_some s.devices.clock) g value s r.script script act feeds (plan_act (is_some s.devices.clock) g value s plan act plan_is is);
        stop = ends.0;
        released = ap (λ (ps : List Piece). r.released ++ ps) cut.pieces ∙ append-nil r.released;
        drops = ap (λ (ds : List Drop). r.drops ++ ds) (nothing_told a.acts.at d.dropped cut.dropped) ∙ append-nil r.drops;
        held = ends.2;
      }

  pub cut_turn : r.stop ≡ None → is_large r.recording.batch ≡ false → Feeds (is_some r.recording.machine.devices.clock) answer_of r.recording.machine g value r.script script
      → Planned adding tearing who g value r.recording aside after_aside batch machine f old new (stopped why) next flight → StopsRun who r why old new next batch machine script
  cut_turn stop small feeds p = go p.plan.act refl p.does
    where
      go : (act : Option Act) → p.plan.act ≡ act → Does adding tearing who p.plan act r.recording aside after_aside batch machine f old new (stopped why) next flight → StopsRun who r why old new next batch machine script
      go (Some act) is a = cut_act p.plan act is stop small feeds p.plan_is a
      go None is i = absurd (not_idle why p.plan.idle i.answer)
