-- What one turn leaves of a run on a disk that tells its content, and what a run of turns does that hasn't been stopped.
use Rattle.std.specs.Prelude.{◌≡◌, ◌++◌, ◌+◌, ◌≤◌, ℕ, List, [], ◌∷◌, length, Option, None, Some, Result, Ok, Err}
use Rattle.avm_outside.specs.Feed.{Agenda}
use Rattle.avm_outside.specs.Moments.{LeavesOnly}
use Rattle.avm_outside.specs.Outlet.{Piece, all_added}
use Rattle.command_parts.specs.Printing.{Prints, PrintsCut}
use Rattle.journal_model.specs.Journal.{JournalData}
use Rattle.journal_model.specs.Part.{Part}
use Rattle.journal_model.specs.Saving.{CommitRefusal, NoLeaf, NoRoom}
use Rattle.jrnl_store.specs.Kept.{Kept}
use Rattle.jrnl_store.specs.declared.fault.Stop.{Stop}
use Rattle.jrnl_store.specs.declared.fault.Stop.TheVariants as stop
use Rattle.record_kept.specs.declared.kept.KeptRow.{KeptRow}
use Rattle.record_laws.specs.Turns.{AreTurns, IsTurn}
use Rattle.record_model.specs.Recorded.{Drop, HasEnded, Run, seal_run}
use Rattle.record_model.specs.Recording.{Recording, sealed, with_seal}
use Rattle.record_model.specs.Released.{Sender}
use Rattle.record_parts.specs.Ends.{CutsAmong}
use Rattle.record_parts.specs.declared.answers.Sealed.{Sealed}
use Rattle.record_parts.specs.declared.answers.Sealed.TheVariants.{Again, Done, Stopped as SealStopped, Ended as SealEnded}
use Rattle.record_parts.specs.declared.answers.Turn.{Turn}
use Rattle.record_parts.specs.declared.answers.Turn.TheVariants as turn
use Rattle.record_ready.specs.Ready.{IsDeskOf}
use Rattle.record_run.specs.Lines.{drop_lines}
use Rattle.record_run.specs.Runs.{InFlight, RunEnds, Writes}
use Rattle.record_run.specs.declared.stops.RunStop.{RunStop}
use Rattle.record_run.specs.declared.stops.RunStop.TheVariants.{LeavesSpent, Full, DiskFault, OutletFault, SinkFault}
use Rattle.record_run.specs.declared.turning.Turned.{Turned}
use Rattle.record_run.specs.declared.turning.Turned.TheVariants.{Went, Dropped, Over}
use Rattle.record_store.specs.Saving.{StandsWith}
use Rattle.run_laws.specs.Run.{StopsRun}

-- Behind one call the disk is the own one of the next journal, of which P holds; a crash at any moment of the call leaves an image that
-- stands for the run's journal, or for it with a batch in flight.
pub record LeftByOne {D : Type 0} (moment : D → ℕ) (left_since : D → ℕ → List ℕ → Type 0) (old new : D) (k : Kept) (rows : List KeptRow) (images : List ℕ → Type 0) (now : List ℕ) (who : Sender) (r : Run) (P : JournalData → Type 0) : Type 0 where
  pub next : JournalData
  pub desk : IsDeskOf k rows images now next
  pub flight : List Part
  pub in_flight : InFlight who r flight
  pub moments : LeavesOnly moment left_since old new (StandsWith r.recording.journal flight)
  pub is : P next

-- a turn of the run that nothing has stopped: what it releases is what the outlet got, and it drops these events
pub record WentOn {H : Type 0} (adding : Piece → H → H) (who : Sender) (r : Run) (drops : List Drop) (old new : H) (after : Recording) (script : Agenda) : Type 0 where
  pub run : Run
  pub turn_is : IsTurn who r run
  pub goes_on : run.stop ≡ None
  pub recording : run.recording ≡ after
  pub script_is : run.script ≡ script
  pub pieces : List Piece
  pub released : run.released ≡ r.released ++ pieces
  pub held : new ≡ all_added adding pieces old
  pub drops_are : run.drops ≡ r.drops ++ drops

-- the run had ended, and nothing is done
pub record IsOver {H : Type 0} (r : Run) (old new : H) (after : Recording) (script : Agenda) : Type 0 where
  pub ended : HasEnded r
  pub recording : r.recording ≡ after
  pub script_is : r.script ≡ script
  pub held : new ≡ old

-- the disk failed while the turn's batch was saved: that stays open
pub record DiskFailed {H : Type 0} (who : Sender) (r : Run) (old new : H) (after : Recording) : Type 0 where
  pub journal : after.journal ≡ r.recording.journal
  pub writes : Writes who r after.batch
  pub held : new ≡ old

-- the outlet failed while it got what the turn releases
pub record OutletFailed {H : Type 0} (adding : Piece → H → H) (tearing : Piece → H → H → Type 0) (who : Sender) (r : Run) (old new : H) (after : Recording) : Type 0 where
  pub run : Run
  pub turn_is : IsTurn who r run
  pub goes_on : run.stop ≡ None
  pub recording : run.recording ≡ after
  pub pieces : List Piece
  pub released : run.released ≡ r.released ++ pieces
  pub held : CutsAmong adding tearing pieces old new

-- a batch that the turn or the seal makes can't be saved: it stays open, and nothing is released
-- (run_laws' StopsRun, of a recording)
abbrev pub CantSave : {H : Type 0} → Sender → Run → CommitRefusal → H → H → Recording → Agenda → Type 0
CantSave who r why old new after script = StopsRun who r why old new after.journal after.batch after.machine script

-- by what is answered; `drops` are the events that the turn drops
abbrev pub TurnEnds : {H : Type 0} → (Piece → H → H) → (Piece → H → H → Type 0) → Sender → Run → List Drop → Result Turned RunStop → H → H → Recording → Agenda → Type 0
TurnEnds adding tearing who r drops (Ok Went) old new after script = WentOn adding who r drops old new after script
TurnEnds adding tearing who r drops (Ok (Dropped why)) old new after script = WentOn adding who r drops old new after script
TurnEnds adding tearing who r drops (Ok Over) old new after script = IsOver r old new after script
TurnEnds adding tearing who r drops (Err LeavesSpent) old new after script = CantSave who r NoLeaf old new after script
TurnEnds adding tearing who r drops (Err Full) old new after script = CantSave who r NoRoom old new after script
TurnEnds adding tearing who r drops (Err DiskFault) old new after script = DiskFailed who r old new after
TurnEnds adding tearing who r drops (Err OutletFault) old new after script = OutletFailed adding tearing who r old new after
TurnEnds adding tearing who r drops (Err SinkFault) old new after script = WentOn adding who r drops old new after script

-- the event that a turn dropped at a count, where it dropped one
abbrev pub drops_by : ℕ → Result Turned RunStop → List Drop
drops_by count (Ok Went) = []
drops_by count (Ok (Dropped why)) = record { why = why; count = count } ∷ []
drops_by count (Ok Over) = []
drops_by count (Err stop) = []

-- why a run stops where the recorder does; a script's feed doesn't fail
abbrev pub stopped_by : Stop → RunStop
stopped_by stop.LeavesSpent = LeavesSpent
stopped_by stop.Full = Full
stopped_by stop.DiskFault = DiskFault
stopped_by stop.OutletFault = OutletFault
stopped_by stop.FeedFault = DiskFault

-- what a recorder's turn came to. A recorder that hadn't stopped doesn't answer Ended.
abbrev pub turned_by : Turn → Result Turned RunStop
turned_by (turn.Ran n) = Ok Went
turned_by turn.Took = Ok Went
turned_by turn.Resent = Ok Went
turned_by (turn.Dropped why) = Ok (Dropped why)
turned_by turn.Waiting = Ok Over
turned_by turn.Halted = Ok Over
turned_by turn.End = Ok Over
turned_by (turn.Stopped stop) = Err (stopped_by stop)
turned_by (turn.Ended stop) = Ok Over

-- what is printed of the events that one turn drops
abbrev pub SaysTurn : List Drop → Result Turned RunStop → ℕ → ℕ → Option (List ℕ) → Option (List ℕ) → Type 0
SaysTurn drops (Ok Went) before now old new = (drops ≡ []) × Prints (drop_lines drops) before now old new
SaysTurn drops (Ok (Dropped why)) before now old new = (length drops ≡ 1) × Prints (drop_lines drops) before now old new
SaysTurn drops (Ok Over) before now old new = (drops ≡ []) × Prints (drop_lines drops) before now old new
SaysTurn drops (Err LeavesSpent) before now old new = (drops ≡ []) × Prints (drop_lines drops) before now old new
SaysTurn drops (Err Full) before now old new = (drops ≡ []) × Prints (drop_lines drops) before now old new
SaysTurn drops (Err DiskFault) before now old new = (drops ≡ []) × Prints (drop_lines drops) before now old new
SaysTurn drops (Err OutletFault) before now old new = (drops ≡ []) × Prints (drop_lines drops) before now old new
SaysTurn drops (Err SinkFault) before now old new = PrintsCut (drop_lines drops) before now old new

-- ---- a run of turns

-- Turns lead to a run that goes on: what it released is what the outlet got, and these are the events that it dropped.
pub record Going {H : Type 0} (adding : Piece → H → H) (who : Sender) (r : Run) (drops : List Drop) (old new : H) (after : Recording) (script : Agenda) : Type 0 where
  pub turns : List Run
  pub end : Run
  pub are_turns : AreTurns who r turns end
  pub goes_on : end.stop ≡ None
  pub recording : end.recording ≡ after
  pub script_is : end.script ≡ script
  pub held : new ≡ all_added adding end.released old
  pub drops_are : end.drops ≡ drops
  pub own : after.machine.devices.own ≡ who.own

-- each turn makes a step, or takes an event
pub record HasMade (n : ℕ) (r : Run) (after : Recording) (script : Agenda) : Type 0 where
  pub made : n + r.recording.machine.count + length script.events ≤ after.machine.count + length r.script.events

-- and it has ended
pub record HasGone {H : Type 0} (adding : Piece → H → H) (who : Sender) (r : Run) (drops : List Drop) (old new : H) (after : Recording) : Type 0 where
  pub turns : List Run
  pub end : Run
  pub are_turns : AreTurns who r turns end
  pub ended : HasEnded end
  pub recording : end.recording ≡ after
  pub held : new ≡ all_added adding end.released old
  pub drops_are : end.drops ≡ drops
  pub own : after.machine.devices.own ≡ who.own

-- how turns end, before the seal
abbrev pub TurnsEnd : {H : Type 0} → (Piece → H → H) → (Piece → H → H → Type 0) → Sender → Run → List Drop → H → H → Recording → Result ℕ RunStop → Type 0
TurnsEnd adding tearing who r drops old new after (Ok n) = HasGone adding who r drops old new after
TurnsEnd adding tearing who r drops old new after (Err stop) = RunEnds {T = ℕ} adding tearing who r drops old new after (Err stop)

-- ---- the seal

-- how the seal of a run ends that has ended
abbrev pub SealEnds : {H : Type 0} → (Piece → H → H) → (Piece → H → H → Type 0) → Sender → Run → H → H → Recording → Result ℕ RunStop → Type 0
SealEnds adding tearing who r old new after (Ok n) = ((seal_run who r).stop ≡ None) × ((seal_run who r).recording ≡ after) × (new ≡ all_added adding (sealed who r.recording).pieces old)
SealEnds adding tearing who r old new after (Err LeavesSpent) = ((seal_run who r).stop ≡ Some NoLeaf) × ((seal_run who r).recording ≡ after) × ((sealed who r.recording).pieces ≡ []) × (new ≡ old)
SealEnds adding tearing who r old new after (Err Full) = ((seal_run who r).stop ≡ Some NoRoom) × ((seal_run who r).recording ≡ after) × ((sealed who r.recording).pieces ≡ []) × (new ≡ old)
SealEnds adding tearing who r old new after (Err DiskFault) = (after ≡ with_seal r.recording) × (new ≡ old)
SealEnds adding tearing who r old new after (Err OutletFault) = ((seal_run who r).stop ≡ None) × ((seal_run who r).recording ≡ after) × CutsAmong adding tearing (sealed who r.recording).pieces old new
SealEnds adding tearing who r old new after (Err SinkFault) = ⊥

-- a seal asks no feed, and a recorder that hadn't stopped doesn't answer Ended
abbrev pub sealed_by : ℕ → Sealed → Result ℕ RunStop
sealed_by drops Done = Ok drops
sealed_by drops Again = Ok drops
sealed_by drops (SealStopped stop.LeavesSpent) = Err LeavesSpent
sealed_by drops (SealStopped stop.Full) = Err Full
sealed_by drops (SealStopped stop.DiskFault) = Err DiskFault
sealed_by drops (SealStopped stop.OutletFault) = Err OutletFault
sealed_by drops (SealStopped stop.FeedFault) = Ok drops
sealed_by drops (SealEnded stop) = Ok drops
