-- A whole turn: what the feed gave makes its plan, and the plan's act is done; or the feed failed, and nothing is done.
use Rattle.std.specs.Prelude.{◌≡◌, ℕ, Bool, true, false, List, [], ◌∷◌, Option, Some, None, is_some, Result, Ok, Err}
use Rattle.avm_model.specs.Machine.{State, asks, is_running}
use Rattle.avm_model.specs.declared.Status.{Status}
use Rattle.avm_model.specs.declared.Status.TheVariants.{Running, Waiting as Waits, Halted as IsHalted}
use Rattle.avm_outside.specs.Feed.{Agenda, Timed, clock_of, due_of}
use Rattle.avm_outside.specs.Outlet.{Piece}
use Rattle.avm_outside.specs.Outside.{Rises}
use Rattle.avm_outside.specs.declared.due.Due.{Due}
use Rattle.avm_outside.specs.declared.due.Due.TheVariants.{Later as DueLater, End as DueEnd}
use Rattle.journal_model.specs.Journal.{JournalData}
use Rattle.journal_model.specs.Part.{Part}
use Rattle.jrnl_store.specs.declared.fault.Stop.{Stop}
use Rattle.jrnl_store.specs.declared.fault.Stop.TheVariants.{LeavesSpent, Full, DiskFault, OutletFault, FeedFault}
use Rattle.record_model.specs.Recorded.{act_of}
use Rattle.record_model.specs.Recording.{Act, AnswerClock, Recording, StepOn}
use Rattle.record_model.specs.Released.{Sender}
use Rattle.record_model.specs.Turn.{Answer, Comes, Gift, IsPlan, Later, Over, Plan, behind_turn}
use Rattle.record_parts.specs.Ends.{Faults, turn_of}
use Rattle.record_parts.specs.declared.answers.Sealed.{Sealed}
use Rattle.record_parts.specs.declared.answers.Sealed.TheVariants.{Stopped as SealStopped}
use Rattle.record_parts.specs.declared.answers.Turn.{Turn}
use Rattle.record_parts.specs.declared.answers.Turn.TheVariants.{Stopped}
use Rattle.record_turn.specs.Keeping.{Aside}
use Rattle.record_turn.specs.Leaves.{Acted}

-- ---- what the feed gave

-- a gift as a feed's answer
abbrev pub due_in : Gift → Due
due_in (Comes what) = due_of what
due_in (Later c) = DueLater c
due_in Over = DueEnd

-- an event that was given was the first that remained
abbrev pub IsFirst : Gift → List Timed → Type 0
IsFirst (Comes what) [] = ⊥
IsFirst (Comes what) (t ∷ ts) = t.event ≡ what
IsFirst gift ts = Unit {0}

-- a feed that holds this gave it to a machine in this state, by the feed's own answer
pub record IsGiven (answer : Agenda → ℕ → Bool → Due) (s : State) (gift : Gift) (held : Agenda) : Type 0 where
  pub due : due_in gift ≡ answer held s.count (is_running s.status)
  pub first : IsFirst gift held.events

-- a clock value that was answered is the next that the feed holds
abbrev pub IsValue : Option Act → Agenda → Type 0
IsValue (Some (AnswerClock value)) held = value ≡ clock_of held
IsValue act held = Unit {0}

-- what remains behind a turn: an event that was given is gone, and a clock request that was answered is counted
abbrev pub behind : Bool → Gift → Option Act → Agenda → Agenda
behind pending gift None held = held
behind pending gift (Some act) held = behind_turn pending gift act held

-- nothing is asked of the feed where a clock is pending
abbrev pub IsAsked : Bool → (Agenda → ℕ → Bool → Due) → State → Gift → Agenda → Type 0
IsAsked true answer s gift held = Unit {0}
IsAsked false answer s gift held = IsGiven answer s gift held

-- the act that a gift leads to, or none, and the clock value that is given where one is asked
abbrev pub act_before : Status → Bool → ℕ → Option Act
act_before Running true value = Some (AnswerClock value)
act_before Running false value = Some StepOn
act_before Waits asked value = None
act_before IsHalted asked value = None

abbrev pub act_by : Gift → ℕ → State → Option Act
act_by (Comes what) value s = Some (act_of what)
act_by (Later c) value s = act_before s.status (asks s) value
act_by Over value s = None

abbrev pub act_for : Bool → Gift → ℕ → State → Option Act
act_for true gift value s = Some StepOn
act_for false gift value s = act_by gift value s

-- what a turn left of a feed that tells what it holds
pub record Feeds (pending : Bool) (answer : Agenda → ℕ → Bool → Due) (s : State) (gift : Gift) (value : ℕ) (old new : Agenda) : Type 0 where
  pub given : IsAsked pending answer s gift old
  pub value_is : IsValue (act_for pending gift value s) old
  pub left : new ≡ behind pending gift (act_for pending gift value s) old

-- the same, where no event was due before a count
pub record FeedsLater (s : State) (c value : ℕ) (old new : Agenda) : Type 0 where
  pub value_is : IsValue (act_by (Later c) value s) old
  pub left : new ≡ behind false (Later c) (act_by (Later c) value s) old

-- ---- what is done

-- nothing: all stays, and the plan's answer is given
pub record Idle {H : Type 0} (idle : Answer) (before : Recording) (aside after_aside : Aside) (batch : List Part) (machine : State) (old new : H) (result : Result Turn Stop) (next : JournalData) (flight : List Part) : Type 0 where
  pub answer : result ≡ Ok (turn_of idle)
  pub journal : next ≡ before.journal
  pub batch_is : batch ≡ before.batch
  pub machine_is : machine ≡ before.machine
  pub aside_is : after_aside ≡ aside
  pub in_flight : flight ≡ before.batch
  pub held : new ≡ old

-- the plan's act, or nothing
abbrev pub Does : {H : Type 0} → (Piece → H → H) → (Piece → H → H → Type 0) → Sender → Plan → Option Act → Recording → Aside → Aside → List Part → State → Faults → H → H → Result Turn Stop → JournalData → List Part → Type 0
Does adding tearing who plan None before aside after_aside batch machine f old new result next flight = Idle plan.idle before aside after_aside batch machine old new result next flight
Does adding tearing who plan (Some act) before aside after_aside batch machine f old new result next flight = Acted adding tearing who plan.quiet act before aside after_aside batch machine f old new result next flight

-- a turn by what the feed gave: its plan, and what is done by it
pub record Planned {H : Type 0} (adding : Piece → H → H) (tearing : Piece → H → H → Type 0) (who : Sender) (gift : Gift) (value : ℕ) (before : Recording) (aside after_aside : Aside) (batch : List Part) (machine : State) (f : Faults) (old new : H) (result : Result Turn Stop) (next : JournalData) (flight : List Part) : Type 0 where
  pub plan : Plan
  pub plan_is : IsPlan (is_some before.machine.devices.clock) gift value before.machine plan
  pub does : Does adding tearing who plan plan.act before aside after_aside batch machine f old new result next flight

-- ---- how a turn ends

-- what is said of a turn whose feed didn't fail
abbrev pub UnlessFeed : Result Turn Stop → Type 0 → Type 0
UnlessFeed (Ok turn) P = P
UnlessFeed (Err LeavesSpent) P = P
UnlessFeed (Err Full) P = P
UnlessFeed (Err DiskFault) P = P
UnlessFeed (Err OutletFault) P = P
UnlessFeed (Err FeedFault) P = Unit {0}

-- and of one whose feed failed
abbrev pub WhereFeed : Result Turn Stop → Type 0 → Type 0
WhereFeed (Ok turn) P = Unit {0}
WhereFeed (Err LeavesSpent) P = Unit {0}
WhereFeed (Err Full) P = Unit {0}
WhereFeed (Err DiskFault) P = Unit {0}
WhereFeed (Err OutletFault) P = Unit {0}
WhereFeed (Err FeedFault) P = P

-- the count of an object's faults rises where this object's failure stopped the call, and else stays
abbrev pub DiskStops : {T : Type 0} → Result T Stop → ℕ → ℕ → Type 0
DiskStops (Ok x) before now = now ≡ before
DiskStops (Err LeavesSpent) before now = now ≡ before
DiskStops (Err Full) before now = now ≡ before
DiskStops (Err DiskFault) before now = Rises before now
DiskStops (Err OutletFault) before now = now ≡ before
DiskStops (Err FeedFault) before now = now ≡ before

abbrev pub OutletStops : {T : Type 0} → Result T Stop → ℕ → ℕ → Type 0
OutletStops (Ok x) before now = now ≡ before
OutletStops (Err LeavesSpent) before now = now ≡ before
OutletStops (Err Full) before now = now ≡ before
OutletStops (Err DiskFault) before now = now ≡ before
OutletStops (Err OutletFault) before now = Rises before now
OutletStops (Err FeedFault) before now = now ≡ before

abbrev pub FeedStops : {T : Type 0} → Result T Stop → ℕ → ℕ → Type 0
FeedStops (Ok x) before now = now ≡ before
FeedStops (Err LeavesSpent) before now = now ≡ before
FeedStops (Err Full) before now = now ≡ before
FeedStops (Err DiskFault) before now = now ≡ before
FeedStops (Err OutletFault) before now = now ≡ before
FeedStops (Err FeedFault) before now = Rises before now

-- ---- answers

-- what a turn and a seal answer, as what a call gives that may be stopped
abbrev pub result_of : Turn → Result Turn Stop
result_of (Stopped stop) = Err stop
result_of turn = Ok turn

abbrev pub seal_result : Sealed → Result Sealed Stop
seal_result (SealStopped stop) = Err stop
seal_result sealed = Ok sealed

-- why a recorder has stopped behind a call that answers this: a stop is kept
abbrev pub stop_behind : {T : Type 0} → Option Stop → Result T Stop → Option Stop
stop_behind (Some stop) result = Some stop
stop_behind None (Ok x) = None
stop_behind None (Err stop) = Some stop
