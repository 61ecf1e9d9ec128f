-- A feed that answers as a list of events, and turns by what it gives.
use Rattle.std.proofs.Common.{◌≡◌, ℕ, Bool, true, false, List, [], ◌∷◌, Option, Some, Result, refl, sym, ap, subst, ◌∙◌}
use Rattle.std.specs.Prelude.{if◌then◌else◌, is_some}
use Rattle.std.specs.Option.{option_map}
use Rattle.avm_model.specs.Machine.{State, asks, is_running}
use Rattle.avm_model.specs.declared.Status.{Status}
use Rattle.avm_model.specs.declared.Status.TheVariants.{Running, Waiting as Waits, Halted as IsHalted}
use Rattle.avm_outside.specs.Feed.{Agenda, Event, Timed, answer_at, answer_of, clock_of, console, due_of, has_come, packet, resend}
use Rattle.avm_outside.specs.Outlet.{Piece}
use Rattle.avm_outside.specs.declared.due.Due.TheVariants.{Later as DueLater, End as DueEnd}
use Rattle.journal_model.specs.Journal.{JournalData}
use Rattle.journal_model.specs.Part.{Part}
use Rattle.jrnl_store.specs.declared.fault.Stop.{Stop}
use Rattle.record_model.specs.Recording.{Act, AnswerClock, Effect, finished, is_large}
use Rattle.record_model.specs.Released.{Sender}
use Rattle.record_model.specs.Turn.{Comes, Gift, IsPlan, IsPlanBefore, IsPlanOf, IsPlanRunning, Later, Over, Plan, behind_turn, doing, gift_at, gift_of}
use Rattle.record_parts.proofs.Ends.{rec}
use Rattle.record_parts.specs.Ends.{Faults}
use Rattle.record_parts.specs.declared.answers.Turn.{Turn}
use Rattle.record_turn.specs.Keeping.{Aside}
use Rattle.record_turn.specs.Leaves.{Acted}
use Rattle.recorder.specs.Turns.{Does, Feeds, IsFirst, IsGiven, IsValue, Planned, act_before, act_by, act_for, behind, due_in}
use Rattle.turn_laws.specs.Scripts.{ByScript}

-- ---- what is given

no_later : (what : Event) (c : ℕ) → due_of what ≡ DueLater c → ⊥
no_later (console bs) c e = absurd cc
no_later (packet bs) c e = absurd cc
no_later (resend peer) c e = absurd cc

no_end : (what : Event) → due_of what ≡ DueEnd → ⊥
no_end (console bs) e = absurd cc
no_end (packet bs) e = absurd cc
no_end (resend peer) e = absurd cc

by_end : (gift : Gift) (ending : ℕ) (b : Bool) → due_in gift ≡ (if b then DueEnd else DueLater ending) → IsFirst gift [] → gift ≡ (if b then Over else Later ending)
by_end (Comes what) ending b d f = absurd f
by_end (Later c) ending true d f = absurd cc
by_end (Later c) ending false d f = let e : c ≡ ending = cc in ap Later e
by_end Over ending true d f = refl
by_end Over ending false d f = absurd cc

by_event : (gift : Gift) (t : Timed) (ts : List Timed) (b : Bool) → due_in gift ≡ (if b then due_of t.event else DueLater t.at) → IsFirst gift (t ∷ ts) → gift ≡ (if b then Comes t.event else Later t.at)
by_event (Comes what) t ts true d f = ap Comes (sym f)
by_event (Comes what) t ts false d f = absurd (no_later what t.at d)
by_event (Later c) t ts true d f = absurd (no_later t.event c (sym d))
by_event (Later c) t ts false d f = let e : c ≡ t.at = cc in ap Later e
by_event Over t ts true d f = absurd (no_end t.event (sym d))
by_event Over t ts false d f = absurd cc

gift_among : (s : State) (gift : Gift) (held : Agenda) (ts : List Timed) → due_in gift ≡ answer_at ts held.ending s.count (is_running s.status) → IsFirst gift ts → gift ≡ gift_at s held ts
gift_among s gift held [] d f = by_end gift held.ending (has_come held.ending s.count (is_running s.status)) d f
gift_among s gift held (t ∷ ts) d f = by_event gift t ts (has_come t.at s.count (is_running s.status)) d f

pub gift_is : (s : State) (gift : Gift) (held : Agenda) → IsGiven answer_of s gift held → gift ≡ gift_of s held
gift_is s gift held g = gift_among s gift held held.events g.due g.first

-- ---- plans

running_value : (c value : ℕ) (s : State) (plan : Plan) (held : Agenda) (a : Bool) → IsValue (act_before Running a value) held → IsPlanRunning a c value s plan → IsPlanRunning a c (clock_of held) s plan
running_value c value s plan held true v h = subst (λ (n : ℕ). plan ≡ doing 0 (AnswerClock n)) v h
running_value c value s plan held false v h = h

later_value : (c value : ℕ) (s : State) (plan : Plan) (held : Agenda) (st : Status) → IsValue (act_before st (asks s) value) held → IsPlanBefore st c value s plan → IsPlanBefore st c (clock_of held) s plan
later_value c value s plan held Running v h = running_value c value s plan held (asks s) v h
later_value c value s plan held Waits v h = h
later_value c value s plan held IsHalted v h = h

plan_value : (gift : Gift) (value : ℕ) (s : State) (plan : Plan) (held : Agenda) → IsValue (act_by gift value s) held → IsPlanOf gift value s plan → IsPlanOf gift (clock_of held) s plan
plan_value (Comes what) value s plan held v h = h
plan_value (Later c) value s plan held v h = later_value c value s plan held s.status v h
plan_value Over value s plan held v h = h

-- the act of a plan
running_act : (c value : ℕ) (s : State) (plan : Plan) (a : Bool) → IsPlanRunning a c value s plan → plan.act ≡ act_before Running a value
running_act c value s plan true h = ap (λ (x : Plan). x.act) h
running_act c value s plan false h = ap (λ (x : Plan). x.act) h.2

later_act : (c value : ℕ) (s : State) (plan : Plan) (st : Status) → IsPlanBefore st c value s plan → plan.act ≡ act_before st (asks s) value
later_act c value s plan Running h = running_act c value s plan (asks s) h
later_act c value s plan Waits h = ap (λ (x : Plan). x.act) h
later_act c value s plan IsHalted h = ap (λ (x : Plan). x.act) h

gift_act : (gift : Gift) (value : ℕ) (s : State) (plan : Plan) → IsPlanOf gift value s plan → plan.act ≡ act_by gift value s
gift_act (Comes what) value s plan h = ap (λ (x : Plan). x.act) h
gift_act (Later c) value s plan h = later_act c value s plan s.status h
gift_act Over value s plan h = ap (λ (x : Plan). x.act) h

plan_act : (pending : Bool) (gift : Gift) (value : ℕ) (s : State) (plan : Plan) → IsPlan pending gift value s plan → plan.act ≡ act_for pending gift value s
plan_act true gift value s plan h = ap (λ (x : Plan). x.act) h
plan_act false gift value s plan h = gift_act gift value s plan h

-- the plan is the script's
script_plan : (pending : Bool) (gift : Gift) (value : ℕ) (s : State) (plan : Plan) (p q : Agenda) → Feeds pending answer_of s gift value p q → IsPlan pending gift value s plan → IsPlan pending (gift_of s p) (clock_of p) s plan
script_plan true gift value s plan p q f h = h
script_plan false gift value s plan p q f h = subst (λ (x : Gift). IsPlanOf x (clock_of p) s plan) (gift_is s gift p f.given) (plan_value gift value s plan p f.value_is h)

-- and what remains is what it leaves
script_left : (pending : Bool) (gift : Gift) (value : ℕ) (s : State) (p q : Agenda) (act : Act) → Feeds pending answer_of s gift value p q → act_for pending gift value s ≡ Some act → q ≡ behind_turn pending (gift_of s p) act p
script_left true gift value s p q act f e = f.left ∙ ap (λ (o : Option Act). behind true gift o p) e
script_left false gift value s p q act f e = f.left ∙ ap (λ (o : Option Act). behind false gift o p) e ∙ ap (λ (x : Gift). behind_turn false x act p) (gift_is s gift p f.given)

pub follows : (H : Type 0) (adding : Piece → H → H) (tearing : Piece → H → H → Type 0) (who : Sender) (gift : Gift) (value : ℕ) (j : JournalData) (b : List Part) (s : State) (aside after : Aside) (batch : List Part) (machine : State) (f : Faults) (old new : H) (result : Result Turn Stop) (next : JournalData) (flight : List Part) (p q : Agenda) (act : Act)
    → is_large b ≡ false → Feeds (is_some s.devices.clock) answer_of s gift value p q → (h : Planned adding tearing who gift value (rec j b s) aside after batch machine f old new result next flight) → h.plan.act ≡ Some act → ByScript adding tearing who j b p q s act (rec next batch machine) f old new result
follows H adding tearing who gift value j b s aside after batch machine f old new result next flight p q act small fed h is =
    let done : Acted adding tearing who h.plan.quiet act (rec j b s) aside after batch machine f old new result next flight = subst (λ (o : Option Act). Does adding tearing who h.plan o (rec j b s) aside after batch machine f old new result next flight) is h.does in
    record {
      pages = done.acts.pages;
      plan = h.plan;
      at = done.acts.at;
      effect = done.acts.effect;
      of_script = record {
        small = small;
        is_plan = script_plan (is_some s.devices.clock) gift value s h.plan p q fed h.plan_is;
        act_is = is;
        quiet = done.acts.moved_to;
        done_is = ap (λ (o : Option Effect). option_map (finished who) o) done.acts.effect_is;
      };
      ends = done.acts.ends;
      left = script_left (is_some s.devices.clock) gift value s p q act fed (sym (plan_act (is_some s.devices.clock) gift value s h.plan h.plan_is) ∙ is);
    }
