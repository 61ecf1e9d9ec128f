-- A turn of a recorder as a turn of a run.
use Rattle.std.specs.Prelude.{◌≡◌, ℕ, List, [], ◌∷◌, ◌++◌, None, Some}
use Rattle.avm_model.specs.Machine.{State}
use Rattle.avm_outside.specs.Feed.{Agenda}
use Rattle.avm_outside.specs.Outlet.{Piece, all_added}
use Rattle.journal_model.specs.Journal.{JournalData}
use Rattle.journal_model.specs.Part.{Part}
use Rattle.journal_model.specs.Saving.{CommitRefusal, NoLeaf, NoRoom}
use Rattle.jrnl_store.specs.declared.fault.Stop.{Stop}
use Rattle.jrnl_store.specs.declared.fault.Stop.TheVariants.{LeavesSpent, Full as FullStop}
use Rattle.record_laws.specs.Turns.{IsTurn}
use Rattle.record_model.specs.Recorded.{Drop, HasEnded, Run}
use Rattle.record_model.specs.Released.{Sender}
use Rattle.record_parts.specs.declared.answers.Turn.{Turn}
use Rattle.record_parts.specs.declared.answers.Turn.TheVariants.{Dropped, End}

-- the event that a turn dropped at a count, where it dropped one
abbrev pub dropped_by : ℕ → Turn → List Drop
dropped_by count (Dropped why) = record { why = why; count = count } ∷ []
dropped_by count turn = []

-- whether a turn is the last of a run
abbrev pub IsOver : Turn → Type 0
IsOver End = Unit {0}
IsOver turn = ⊥

-- The run behind a turn that nothing has stopped: its recording and its script are those behind the turn, what was released is what the
-- outlet got, and an event that was dropped is told.
pub record Behind {H : Type 0} (adding : Piece → H → H) (who : Sender) (r : Run) (turn : Turn) (old new : H) (next : JournalData) (batch : List Part) (machine : State) (script : Agenda) : Type 0 where
  pub run : Run
  pub turn_is : IsTurn who r run
  pub recording : run.recording ≡ record { journal = next; batch = batch; machine = machine }
  pub script_is : run.script ≡ script
  pub goes_on : run.stop ≡ None
  pub pieces : List Piece
  pub released : run.released ≡ r.released ++ pieces
  pub held : new ≡ all_added adding pieces old
  pub drops : run.drops ≡ r.drops ++ dropped_by r.recording.machine.count turn

-- The run has ended, and nothing is done.
pub record Stands {H : Type 0} (r : Run) (turn : Turn) (old new : H) (next : JournalData) (batch : List Part) (machine : State) (script : Agenda) : Type 0 where
  pub over : IsOver turn
  pub ended : HasEnded r
  pub recording : r.recording ≡ record { journal = next; batch = batch; machine = machine }
  pub script_is : r.script ≡ script
  pub held : new ≡ old

-- The run behind a turn whose batch can't be saved: nothing is released, and the batch stays open.
pub record StopsRun {H : Type 0} (who : Sender) (r : Run) (why : CommitRefusal) (old new : H) (next : JournalData) (batch : List Part) (machine : State) (script : Agenda) : Type 0 where
  pub run : Run
  pub turn_is : IsTurn who r run
  pub recording : run.recording ≡ record { journal = next; batch = batch; machine = machine }
  pub script_is : run.script ≡ script
  pub stop : run.stop ≡ Some why
  pub released : run.released ≡ r.released
  pub drops : run.drops ≡ r.drops
  pub held : new ≡ old

-- why a batch can't be saved, as a stop
abbrev pub stop_of : CommitRefusal → Stop
stop_of NoLeaf = LeavesSpent
stop_of NoRoom = FullStop
