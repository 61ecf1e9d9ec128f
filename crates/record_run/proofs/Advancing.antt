-- What an act and a turn keep, and how far they come.
use Rattle.std.proofs.Common.{◌≡◌, ℕ, zero, suc, ◌+◌, ◌≤◌, Bool, true, false, List, [], ◌∷◌, length, Option, Some, None, refl, sym, ap, subst, ◌∙◌, arith}
use Rattle.std.specs.Prelude.{is_some, if◌then◌else◌}
use Rattle.avm_num.specs.Bytes.{◌>>=◌}
use Rattle.std.specs.Option.{option_map}
use Rattle.avm_model.proofs.ReferenceLaws.{is_timed}
use Rattle.avm_model.specs.Machine.{State, asks}
use Rattle.avm_model.specs.Offer.{Offer, OfferClock, refuse_packet, refused, taken}
use Rattle.avm_model.specs.Reference.{Given, Made, step_of, take_of, timed, unless}
use Rattle.avm_model.specs.Rerun.{moved, moved_by}
use Rattle.avm_model.specs.declared.NotTaken.{NotTaken}
use Rattle.avm_model.specs.declared.Status.{Status}
use Rattle.avm_model.specs.declared.Status.TheVariants.{Running, Waiting as Waits, Halted as IsHalted}
use Rattle.avm_outside.specs.Feed.{Agenda, Event, Timed, clock_of, console, packet, resend, with_asked}
use Rattle.journal_model.specs.Saving.{CommitRefusal, commit_refusal}
use Rattle.record_laws.proofs.Fronts.{step_front, taken_front}
use Rattle.record_laws.specs.Turns.{IsTurn}
use Rattle.record_model.specs.Recorded.{Run, act_of, is_due}
use Rattle.record_model.specs.Recording.{Act, AnswerClock, Done, Effect, Recording, SendAgain, StepOn, TakeIn, closed_by, dropped_for, effect, finished, given_at, sent_again, stepped_on, take_in, taken_in, with_input, with_step}
use Rattle.record_model.specs.Released.{Sender}
use Rattle.record_model.specs.Turn.{Answer, Comes, Gift, IsPlan, IsPlanBefore, IsPlanRunning, Later, Over, Plan, behind_turn, doing, gift_at, gift_of, idling, without_first}

-- ---- machines

-- the own id stays, and the count comes at least so far
pub record ComesOn (s t : State) (n : ℕ) : Type 0 where
  pub own : t.devices.own ≡ s.devices.own
  pub count : s.count + n ≤ t.count

comes_none : (s : State) → ComesOn s s 0
comes_none s = record { own = refl; count = omega arith }

pub comes_more : (s t u : State) (n m : ℕ) → ComesOn s t n → ComesOn t u m → ComesOn s u (n + m)
comes_more s t u n m a b = record { own = b.own ∙ a.own; count = omega (arith, a.count, b.count) }

less : (s t : State) (n : ℕ) → ComesOn s t n → ComesOn s t 0
less s t n a = record { own = a.own; count = omega (arith, a.count) }

step_comes : (s t : State) (os : List Made) → step_of s ≡ Some (t, os) → ComesOn s t 1
step_comes s t os e = record { own = (step_front s t os e).own; count = let c : t.count ≡ s.count + 1 = is_timed.steps s t os e in omega (arith, c) }

taken_count : (s : State) (o : Offer) (w : Option NotTaken) → refused s o ≡ w → w ≡ None → (taken s o).count ≡ s.count
unfolding take_of
taken_count s o None e none = is_timed.takes s (taken s o) (record { count = s.count; offer = o }) (rw e refl)
taken_count s o (Some why) e none = absurd cc

taken_comes : (s : State) (o : Offer) → refused s o ≡ None → ComesOn s (taken s o) 0
taken_comes s o e = record { own = (taken_front s o).own; count = let c = taken_count s o None e refl in omega (arith, c) }

take_comes : (s t : State) (i : Given) → take_of s i ≡ Some t → ComesOn s t 0
unfolding take_of
take_comes s t i e = go (refused s i.offer) refl e
  where
    go : (w : Option NotTaken) → refused s i.offer ≡ w → unless w (taken s i.offer) ≡ Some t → ComesOn s t 0
    go None p h = let same : taken s i.offer ≡ t = cc in subst (λ (x : State). ComesOn s x 0) same (taken_comes s i.offer p)
    go (Some why) p h = absurd cc

pub moved_comes : (n : ℕ) (s u : State) → moved timed n s ≡ Some u → ComesOn s u 0
moved_comes zero s u e = let same : s ≡ u = cc in subst (λ (x : State). ComesOn s x 0) same (comes_none s)
moved_comes (suc n) s u e = go (λ t q. moved_comes n t u q) (step_of s) refl e
  where
    go : ((t : State) → moved timed n t ≡ Some u → ComesOn t u 0) → (r : Option (State × List Made)) → step_of s ≡ r → moved_by r (moved timed n) ≡ Some u → ComesOn s u 0
    go ih None p q = absurd cc
    go ih (Some (t, [])) p q = less s u (1 + 0) (comes_more s t u 1 0 (step_comes s t [] p) (ih t q))
    go ih (Some (t, o ∷ os)) p q = absurd cc

-- ---- acts

-- the steps of an act
abbrev pub steps_of : Act → ℕ
steps_of StepOn = 1
steps_of (AnswerClock value) = 1
steps_of (TakeIn offer) = 0
steps_of (SendAgain peer) = 0

pub record Advances (r : Recording) (e : Effect) (n : ℕ) : Type 0 where
  pub journal : e.recording.journal ≡ r.journal
  pub comes : ComesOn r.machine e.recording.machine n

step_advances : (r : Recording) (pages : List ℕ) (o : Option (State × List Made)) (e : Effect) → step_of r.machine ≡ o → option_map (with_step r pages) o ≡ Some e → Advances r e 1
step_advances r pages None e p h = absurd cc
step_advances r pages (Some (t, os)) e p h =
    let same : with_step r pages (t, os) ≡ e = cc in
    subst (λ (x : Effect). Advances r x 1) same (record { journal = refl; comes = step_comes r.machine t os p })

clock_advances : (r : Recording) (pages : List ℕ) (value : ℕ) (o : Option State) (e : Effect) → take_of r.machine (given_at r.machine (OfferClock value)) ≡ o → (o >>= λ s. stepped_on (with_input r (OfferClock value) s) pages) ≡ Some e → Advances r e 1
clock_advances r pages value None e p h = absurd cc
clock_advances r pages value (Some u) e p h =
    let q : Recording = with_input r (OfferClock value) u in
    let a = step_advances q pages (step_of q.machine) e refl h in
    record { journal = a.journal; comes = comes_more r.machine u e.recording.machine 0 1 (take_comes r.machine u (given_at r.machine (OfferClock value)) p) a.comes }

taken_advances : (who : Sender) (r : Recording) (offer : Option Offer) (w : Option NotTaken) (e : Effect) → refuse_packet r.machine offer ≡ w → take_in who r offer w ≡ Some e → Advances r e 0
taken_advances who r offer (Some why) e p h =
    let same : dropped_for who r offer why ≡ e = cc in
    subst (λ (x : Effect). Advances r x 0) same (record { journal = refl; comes = comes_none r.machine })
taken_advances who r None None e p h = absurd cc
taken_advances who r (Some o) None e p h =
    let same : taken_in r o ≡ e = cc in
    subst (λ (x : Effect). Advances r x 0) same (record { journal = refl; comes = taken_comes r.machine o p })

pub effect_advances : (who : Sender) (pages : List ℕ) (r : Recording) (act : Act) (e : Effect) → effect who pages r act ≡ Some e → Advances r e (steps_of act)
effect_advances who pages r StepOn e h = step_advances r pages (step_of r.machine) e refl h
effect_advances who pages r (AnswerClock value) e h = clock_advances r pages value (take_of r.machine (given_at r.machine (OfferClock value))) e refl h
effect_advances who pages r (TakeIn offer) e h = taken_advances who r offer (refuse_packet r.machine offer) e refl h
effect_advances who pages r (SendAgain peer) e h =
    let same : sent_again who r peer ≡ e = cc in
    subst (λ (x : Effect). Advances r x 0) same (record { journal = refl; comes = comes_none r.machine })

-- the machine behind what is done is that of the effect
pub finished_machine : (who : Sender) (e : Effect) → (finished who e).recording.machine ≡ e.recording.machine
finished_machine who e = go e.closes (commit_refusal e.recording.journal e.recording.batch)
  where
    by : (o : Option CommitRefusal) → (closed_by who e.recording o).recording.machine ≡ e.recording.machine
    by None = refl
    by (Some why) = refl

    go : (b : Bool) → (o : Option CommitRefusal) → (if b then closed_by who e.recording o else record { recording = e.recording; pieces = e.again; dropped = e.dropped; stop = None }).recording.machine ≡ e.recording.machine
    go true o = by o
    go false o = refl

-- ---- turns

-- a turn makes a step or takes an event, and the own id stays
pub record Passes (s t : State) (p q : Agenda) : Type 0 where
  pub own : t.devices.own ≡ s.devices.own
  pub made : s.count + length q.events + 1 ≤ t.count + length p.events

by_step : (s t : State) (p q : Agenda) → ComesOn s t 1 → q.events ≡ p.events → Passes s t p q
by_step s t p q c e = record { own = c.own; made = let l : length q.events ≡ length p.events = ap (λ (x : List Timed). length x) e in omega (arith, c.count, l) }

by_event : (s t : State) (p q : Agenda) → ComesOn s t 0 → length q.events + 1 ≡ length p.events → Passes s t p q
by_event s t p q c l = record { own = c.own; made = omega (arith, c.count, l) }

same_act : (n : ℕ) (plan : Plan) (act other : Act) → plan ≡ doing n act → plan.act ≡ Some other → act ≡ other
same_act n plan act other e h = let q : Some act ≡ Some other = sym (ap (λ (x : Plan). x.act) e) ∙ h in cc q

no_act : (plan : Plan) (turn : Answer) (other : Act) → plan ≡ idling turn → plan.act ≡ Some other → ⊥
no_act plan turn other e h = absurd (let q : None ≡ Some other = sym (ap (λ (x : Plan). x.act) e) ∙ h in cc q)

-- the first event is gone
one_less : (s : State) (p : Agenda) (es : List Timed) (what : Event) → gift_at s p es ≡ Comes what → p.events ≡ es → length (without_first p es).events + 1 ≡ length es
one_less s p [] what g e = absurd (none (is_due p.ending s) g)
  where
    none : (b : Bool) → (if b then Over else Later p.ending) ≡ Comes what → ⊥
    none true h = absurd cc
    none false h = absurd cc
one_less s p (x ∷ es) what g e = omega arith

module _ (s t : State) (p : Agenda) (plan : Plan) (act : Act) (act_is : plan.act ≡ Some act) (comes : ComesOn s t (steps_of act)) where
  after_as : (pending : Bool) (g : Gift) (other : Act) → other ≡ act → (ComesOn s t (steps_of other) → Passes s t p (behind_turn pending g other p)) → Passes s t p (behind_turn pending g act p)
  after_as pending g other e f = subst (λ (a : Act). Passes s t p (behind_turn pending g a p)) e (f (subst (λ (a : Act). ComesOn s t (steps_of a)) (sym e) comes))

  event_passes : (what : Event) → length (without_first p p.events).events + 1 ≡ length p.events → ComesOn s t (steps_of (act_of what)) → Passes s t p (without_first p p.events)
  event_passes (console bytes) l c = by_event s t p (without_first p p.events) c l
  event_passes (packet bytes) l c = by_event s t p (without_first p p.events) c l
  event_passes (resend peer) l c = by_event s t p (without_first p p.events) c l

  running_passes : (asked : Bool) (c v : ℕ) → IsPlanRunning asked c v s plan → Passes s t p (behind_turn false (Later c) act p)
  running_passes true c v q = after_as false (Later c) (AnswerClock v) (same_act 0 plan (AnswerClock v) act q act_is) (λ h. by_step s t p (with_asked p) h refl)
  running_passes false c v q = after_as false (Later c) StepOn (same_act q.0 plan StepOn act q.2 act_is) (λ h. by_step s t p p h refl)

  before_passes : (status : Status) (c v : ℕ) → IsPlanBefore status c v s plan → Passes s t p (behind_turn false (Later c) act p)
  before_passes Running c v q = running_passes (asks s) c v q
  before_passes Waits c v q = absurd (no_act plan _ act q act_is)
  before_passes IsHalted c v q = absurd (no_act plan _ act q act_is)

  plan_passes : (pending : Bool) (g : Gift) (v : ℕ) → gift_at s p p.events ≡ g → IsPlan pending g v s plan → Passes s t p (behind_turn pending g act p)
  plan_passes true g v e q = after_as true g StepOn (same_act 0 plan StepOn act q act_is) (λ h. by_step s t p p h refl)
  plan_passes false (Comes what) v e q = after_as false (Comes what) (act_of what) (same_act 0 plan (act_of what) act q act_is) (event_passes what (one_less s p p.events what e refl))
  plan_passes false (Later c) v e q = before_passes s.status c v q
  plan_passes false Over v e q = absurd (no_act plan _ act q act_is)

done_comes : (who : Sender) (pages : List ℕ) (r : Recording) (act : Act) (d : Done) (o : Option Effect) → effect who pages r act ≡ o → option_map (finished who) o ≡ Some d → ComesOn r.machine d.recording.machine (steps_of act)
done_comes who pages r act d None e h = absurd cc
done_comes who pages r act d (Some x) e h =
    let same : finished who x ≡ d = cc in
    let there : x.recording.machine ≡ d.recording.machine = sym (finished_machine who x) ∙ ap (λ (y : Done). y.recording.machine) same in
    subst (λ (m : State). ComesOn r.machine m (steps_of act)) there (effect_advances who pages r act x e).comes

pub turn_passes : (who : Sender) (r t : Run) → IsTurn who r t → Passes r.recording.machine t.recording.machine r.script t.script
turn_passes who r t h =
    let s = r.recording.machine in
    let at : Recording = record { journal = r.recording.journal; batch = r.recording.batch; machine = h.at } in
    let on = comes_more s h.at h.done.recording.machine 0 (steps_of h.act) (moved_comes h.plan.quiet s h.at h.of_script.quiet) (done_comes who h.pages at h.act h.done (effect who h.pages at h.act) refl h.of_script.done_is) in
    let k = plan_passes s h.done.recording.machine r.script h.plan h.act h.of_script.act_is (subst (λ (n : ℕ). ComesOn s h.done.recording.machine n) (zero_more (steps_of h.act)) on) (is_some s.devices.clock) (gift_of s r.script) (clock_of r.script) refl h.of_script.is_plan in
    subst (λ (x : Run). Passes s x.recording.machine r.script x.script) (sym h.behind) k
  where
    zero_more : (n : ℕ) → 0 + n ≡ n
    zero_more n = omega arith
