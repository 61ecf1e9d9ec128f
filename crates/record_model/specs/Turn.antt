-- One turn of a recorder: steps without outputs, and then at most one act, by what the feed gives.
use Rattle.std.specs.Prelude.{◌≡◌, ℕ, ◌+◌, ◌≤◌, ◌<◌, ◌==◌, ◌&&◌, not, Bool, true, false, List, [], ◌∷◌, length, Option, Some, None, is_some, if◌then◌else◌}
use Rattle.avm_model.specs.Machine.{State, asks, is_running}
use Rattle.avm_model.specs.Rerun.{moved}
use Rattle.avm_model.specs.Reference.{Made, timed, step_of}
use Rattle.avm_model.specs.declared.NotTaken.{NotTaken}
use Rattle.avm_model.specs.declared.Status.{Status}
use Rattle.avm_model.specs.declared.Status.TheVariants.{Running, Waiting as Waits, Halted as IsHalted}
use Rattle.avm_outside.specs.Feed.{Agenda, Event, Timed, clock_of, with_asked}
use Rattle.avm_outside.specs.Outlet.{Piece}
use Rattle.journal_model.specs.Journal.{JournalData}
use Rattle.journal_model.specs.Part.{Part}
use Rattle.record_model.specs.Recorded.{Drop, act_of, is_due, moves, ran, running}
use Rattle.record_model.specs.Recording.{Act, AnswerClock, Done, Recording, SendAgain, StepOn, TakeIn, done, is_large}
use Rattle.record_model.specs.Released.{Sender}

-- what a feed gives: the event that is due, or none before a count, or the end
pub data Gift : Type 0 where
  Comes : Event → Gift
  Later : ℕ → Gift
  Over : Gift

-- what a turn answers that isn't stopped
pub data Answer : Type 0 where
  Ran : ℕ → Answer
  Took : Answer
  Resent : Answer
  Dropped : NotTaken → Answer
  Waiting : Answer
  Halted : Answer
  End : Answer

-- so many steps without outputs, then an act or none
pub record Plan : Type 0 where
  pub quiet : ℕ
  pub act : Option Act
  -- the answer where there is no act
  pub idle : Answer

abbrev pub doing : ℕ → Act → Plan
doing n act = record { quiet = n; act = Some act; idle = End }

abbrev pub idling : Answer → Plan
idling turn = record { quiet = 0; act = None; idle = turn }

-- the most steps of a turn
abbrev pub most_steps : ℕ
most_steps = 65536

-- a step can follow: the count isn't c, the machine runs and doesn't ask
abbrev pub goes_on : ℕ → State → Bool
goes_on c s = not (s.count == c) && is_running s.status && not (asks s)

-- Steps up to the first that gives outputs, or to where none can follow: n + 1 of them, of which the first n have no outputs.
pub record IsSpell (c : ℕ) (s : State) (n : ℕ) : Type 0 where
  pub last : State
  pub after : State
  pub outs : List Made
  pub quiet : moved timed n s ≡ Some last
  pub step : step_of last ≡ Some (after, outs)
  pub before : (k : ℕ) (t : State) → k ≤ n → moved timed k s ≡ Some t → goes_on c t ≡ true
  pub most : n < most_steps
  pub stop : outs ≡ [] → goes_on c after ≡ true → n + 1 ≡ most_steps

abbrev pub IsSpellPlan : ℕ → State → Plan → Type 0
IsSpellPlan c s plan = (n : ℕ) × IsSpell c s n × (plan ≡ doing n StepOn)

abbrev pub IsPlanRunning : Bool → ℕ → ℕ → State → Plan → Type 0
IsPlanRunning true c value s plan = plan ≡ doing 0 (AnswerClock value)
IsPlanRunning false c value s plan = IsSpellPlan c s plan

abbrev pub IsPlanBefore : Status → ℕ → ℕ → State → Plan → Type 0
IsPlanBefore Running c value s plan = IsPlanRunning (asks s) c value s plan
IsPlanBefore Waits c value s plan = plan ≡ idling Waiting
IsPlanBefore IsHalted c value s plan = plan ≡ idling Halted

-- by what the feed gave, and the clock value that it gives where it is asked
abbrev pub IsPlanOf : Gift → ℕ → State → Plan → Type 0
IsPlanOf (Comes what) value s plan = plan ≡ doing 0 (act_of what)
IsPlanOf (Later c) value s plan = IsPlanBefore s.status c value s plan
IsPlanOf Over value s plan = plan ≡ idling End

-- a pending clock is used first, and nothing is asked of the feed
abbrev pub IsPlan : Bool → Gift → ℕ → State → Plan → Type 0
IsPlan true gift value s plan = plan ≡ doing 0 StepOn
IsPlan false gift value s plan = IsPlanOf gift value s plan

-- ---- what is answered

abbrev pub unless_dropped : Option NotTaken → Answer → Answer
unless_dropped None turn = turn
unless_dropped (Some why) turn = Dropped why

abbrev pub answer_for : ℕ → Act → Option NotTaken → Answer
answer_for quiet StepOn dropped = Ran (quiet + 1)
answer_for quiet (AnswerClock value) dropped = Ran 1
answer_for quiet (TakeIn offer) dropped = unless_dropped dropped Took
answer_for quiet (SendAgain peer) dropped = unless_dropped dropped Resent

-- What a turn does that isn't stopped by the outside: its plan. With no act nothing changes.
pub record Turned (who : Sender) (pages : List ℕ) (r : Recording) (plan : Plan) (act : Act) (d : Done) : Type 0 where
  pub at : State
  pub quiet : moved timed plan.quiet r.machine ≡ Some at
  pub done_is : done who pages (record r { machine = at }) act ≡ Some d

-- ---- what a script gives

abbrev pub gift_at : State → Agenda → List Timed → Gift
gift_at s p [] = if is_due p.ending s then Over else Later p.ending
gift_at s p (e ∷ es) = if is_due e.at s then Comes e.event else Later e.at

abbrev pub gift_of : State → Agenda → Gift
gift_of s p = gift_at s p p.events

-- what remains of a script: an event that was given is gone, and a clock value that was given is counted
abbrev pub without_first : Agenda → List Timed → Agenda
without_first p [] = p
without_first p (e ∷ es) = record p { events = es }

abbrev pub behind_gift : Gift → Act → Agenda → Agenda
behind_gift (Comes what) act p = without_first p p.events
behind_gift (Later c) (AnswerClock value) p = with_asked p
behind_gift (Later c) act p = p
behind_gift Over act p = p

-- the script behind a turn: nothing of it is used where a clock is pending
abbrev pub behind_turn : Bool → Gift → Act → Agenda → Agenda
behind_turn true gift act p = p
behind_turn false gift act p = behind_gift gift act p

-- What a turn did are moves: one for each of its steps, or one.
pub record AreMoves (who : Sender) (j : JournalData) (b : List Part) (p : Agenda) (rel : List Piece) (dr : List Drop) (s at : State) (quiet : ℕ) (act : Act) (d : Done) (q : Agenda) : Type 0 where
  pub pages : List (List ℕ)
  pub many : length pages ≡ quiet + 1
  pub moves_are : moves who pages (running j b p rel dr s) ≡ Some (ran (running j b p rel dr at) q d)

-- A turn by a plan, where the feed gives what the script says, from a state to where its act is done.
pub record OfScript (who : Sender) (pages : List ℕ) (j : JournalData) (b : List Part) (p : Agenda) (s : State) (plan : Plan) (act : Act) (d : Done) (at : State) : Type 0 where
  pub small : is_large b ≡ false
  pub is_plan : IsPlan (is_some s.devices.clock) (gift_of s p) (clock_of p) s plan
  pub act_is : plan.act ≡ Some act
  pub quiet : moved timed plan.quiet s ≡ Some at
  pub done_is : done who pages (record { journal = j; batch = b; machine = at }) act ≡ Some d
