-- A whole recording of a script: one run, without turns.
use Rattle.std.specs.Prelude.{◌≡◌, ℕ, Bool, List, [], ◌∷◌, ◌++◌, Option, Some, None, is_some, if◌then◌else◌}
use Rattle.std.specs.Option.{option_map}
use Rattle.avm_num.specs.Bytes.{◌>>=◌}
use Rattle.avm_model.specs.Machine.{State, asks, is_running}
use Rattle.avm_model.specs.Offer.{OfferConsole, packet_offer}
use Rattle.avm_model.specs.declared.NotTaken.{NotTaken}
use Rattle.avm_outside.specs.Feed.{Agenda, Event, Timed, clock_of, console, has_come, packet, resend, with_asked}
use Rattle.avm_outside.specs.Outlet.{Piece}
use Rattle.honest_model.specs.Keeps.{IsOpened}
use Rattle.journal_model.specs.Journal.{JournalData}
use Rattle.journal_model.specs.Part.{Part}
use Rattle.journal_model.specs.Saving.{CommitRefusal}
use Rattle.record_model.specs.Recording.{Act, AnswerClock, Done, Recording, SendAgain, StepOn, TakeIn, done, sealed}
use Rattle.record_model.specs.Released.{Sender}

-- the first remaining event is due at its count, or where the machine doesn't run
abbrev pub is_due : ℕ → State → Bool
is_due at s = has_come at s.count (is_running s.status)

abbrev pub act_of : Event → Act
act_of (console bytes) = TakeIn (Some (OfferConsole bytes))
act_of (packet bytes) = TakeIn (packet_offer bytes)
act_of (resend peer) = SendAgain peer

-- ---- the rules, in their order

pub record Next : Type 0 where
  pub act : Act
  pub script : Agenda

-- where the machine asks it gets the next clock value and makes the step that uses it; else it makes a step
abbrev pub by_machine : State → Agenda → Next
by_machine s p =
    if asks s then record { act = AnswerClock (clock_of p); script = with_asked p }
    else record { act = StepOn; script = p }

-- the first remaining event is taken, sent again or dropped where it is due; without events the run ends at its count, or where the
-- machine doesn't run
abbrev pub by_events : State → Agenda → List Timed → Option Next
by_events s p [] = if is_due p.ending s then None else Some (by_machine s p)
by_events s p (e ∷ es) = Some (if is_due e.at s then record { act = act_of e.event; script = record p { events = es } } else by_machine s p)

-- a pending clock is used first
abbrev pub next_act : State → Agenda → Option Next
next_act s p = if is_some s.devices.clock then Some (record { act = StepOn; script = p }) else by_events s p p.events

-- ---- the run

-- a dropped event: why, and the count
pub record Drop : Type 0 where
  pub why : NotTaken
  pub count : ℕ

pub record Run : Type 0 where
  pub recording : Recording
  pub script : Agenda
  pub released : List Piece
  pub drops : List Drop
  pub stop : Option CommitRefusal

abbrev pub drops_of : State → Option NotTaken → List Drop
drops_of s None = []
drops_of s (Some why) = record { why = why; count = s.count } ∷ []

abbrev pub ran : Run → Agenda → Done → Run
ran r p d = record {
  recording = d.recording;
  script = p;
  released = r.released ++ d.pieces;
  drops = r.drops ++ drops_of r.recording.machine d.dropped;
  stop = d.stop;
}

abbrev pub move_by : Sender → List ℕ → Run → Option Next → Option Run
move_by who pages r None = None
move_by who pages r (Some n) = option_map (ran r n.script) (done who pages r.recording n.act)

abbrev pub move_unless : Sender → List ℕ → Run → Option CommitRefusal → Option Run
move_unless who pages r (Some why) = None
move_unless who pages r None = move_by who pages r (next_act r.recording.machine r.script)

-- one move, with the pages of the keep that it writes; none where the run has ended or was stopped
abbrev pub move : Sender → List ℕ → Run → Option Run
move who pages r = move_unless who pages r r.stop

-- as many moves as there are lists of pages
abbrev pub moves : Sender → List (List ℕ) → Run → Option Run
moves who [] r = Some r
moves who (p ∷ ps) r = move who p r >>= moves who ps

-- the run has ended by the script
pub record HasEnded (r : Run) : Type 0 where
  pub stop : r.stop ≡ None
  pub over : next_act r.recording.machine r.script ≡ None

-- a run that was stopped stays as it is; one that has ended is sealed
abbrev pub seal_run : Sender → Run → Run
seal_run who r = ran r r.script (sealed who r.recording)

-- a run that wasn't stopped
abbrev pub running : JournalData → List Part → Agenda → List Piece → List Drop → State → Run
running j batch p released drops s =
    record { recording = record { journal = j; batch = batch; machine = s }; script = p; released = released; drops = drops; stop = None }

abbrev pub begun : JournalData → State → Agenda → Run
begun j s p = record { recording = record { journal = j; batch = []; machine = s }; script = p; released = []; drops = []; stop = None }

-- stopped, or ended and sealed
abbrev pub IsLast : Sender → Run → Run → Type 0
IsLast who end last = StopsAt end.stop
  where
    StopsAt : Option CommitRefusal → Type 0
    StopsAt (Some why) = last ≡ end
    StopsAt None = HasEnded end × (last ≡ seal_run who end)

-- What recording a script leaves: moves from the opened journal until the run has ended, and then a seal; or until a batch can't be
-- saved.
pub record IsRecorded (who : Sender) (j : JournalData) (p : Agenda) (last : Run) : Type 0 where
  pub machine : State
  pub opened : IsOpened j machine
  pub pages : List (List ℕ)
  pub end : Run
  pub ran_to : moves who pages (begun j machine p) ≡ Some end
  pub last_is : IsLast who end last
