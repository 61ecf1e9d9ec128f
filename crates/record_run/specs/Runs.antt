-- How far a script's run comes on a disk that tells its content.
use Rattle.std.specs.Prelude.{◌≡◌, ◌⊎◌, ◌++◌, ℕ, List, Option, None, Some, is_some, IfSome, Result, Ok, Err}
use Rattle.avm_model.specs.Machine.{State}
use Rattle.avm_model.specs.Reference.{timed}
use Rattle.avm_model.specs.Rerun.{moved}
use Rattle.avm_outside.specs.Feed.{clock_of}
use Rattle.avm_outside.specs.Moments.{LeavesOnly}
use Rattle.avm_outside.specs.Outlet.{Piece, all_added}
use Rattle.journal_model.specs.Journal.{JournalData}
use Rattle.journal_model.specs.Part.{Part}
use Rattle.journal_model.specs.Saving.{CommitRefusal, NoLeaf, NoRoom}
use Rattle.jrnl_store.specs.Kept.{Kept}
use Rattle.record_laws.specs.Turns.{AreTurns, IsTurn}
use Rattle.record_model.specs.Recorded.{Drop, HasEnded, IsLast, Run, seal_run}
use Rattle.record_model.specs.Recording.{Act, Effect, Recording, effect as effect_of, with_seal}
use Rattle.record_model.specs.Released.{Sender}
use Rattle.record_model.specs.Turn.{IsPlan, Plan, gift_of}
use Rattle.record_parts.specs.Ends.{CutsAmong}
use Rattle.record_kept.specs.declared.kept.KeptRow.{KeptRow}
use Rattle.record_ready.specs.Ready.{IsDeskOf}
use Rattle.record_run.specs.declared.stops.RunStop.{RunStop}
use Rattle.record_run.specs.declared.stops.RunStop.TheVariants.{LeavesSpent, Full, DiskFault, OutletFault, SinkFault}
use Rattle.record_store.specs.Saving.{StandsWith}
use Rattle.record_turn.specs.declared.desk.Desk.{Desk}

-- a disk that tells its content is a recorder's own: its journal's, whose tickets are kept
abbrev pub HasDesk : Kept → List KeptRow → (List ℕ → Type 0) → Option (List ℕ) → Type 0
HasDesk k rows images told = IfSome told (λ was. (j : JournalData) × IsDeskOf k rows images was j)

-- who signs
abbrev pub sender_of : Desk → Sender
sender_of d = record { key = d.press.key; own = d.machine.state.devices.own }

-- ---- what a crash leaves

-- The batch that a turn of a run leaves open before it is saved: that of its act, behind its steps without outputs.
pub record Writes (who : Sender) (r : Run) (flight : List Part) : Type 0 where
  pub plan : Plan
  pub plan_is : IsPlan (is_some r.recording.machine.devices.clock) (gift_of r.recording.machine r.script) (clock_of r.script) r.recording.machine plan
  pub act : Act
  pub act_is : plan.act ≡ Some act
  pub at : State
  pub quiet : moved timed plan.quiet r.recording.machine ≡ Some at
  pub pages : List ℕ
  pub effect : Effect
  pub effect_is : effect_of who pages (record r.recording { machine = at }) act ≡ Some effect
  pub flight_is : flight ≡ effect.recording.batch

-- what a call may write of a run that wasn't stopped: the open batch, that of its next turn, or, where it has ended, the open batch with a seal
abbrev pub InFlight : Sender → Run → List Part → Type 0
InFlight who r flight = (flight ≡ r.recording.batch) ⊎ Writes who r flight ⊎ (HasEnded r × (flight ≡ (with_seal r.recording).batch))

-- an image stands for the journal of a run to which turns lead, or for that journal with the batch in flight
pub record StandsIn (who : Sender) (r : Run) (c : List ℕ) : Type 0 where
  pub turns : List Run
  pub reached : Run
  pub are_turns : AreTurns who r turns reached
  pub flight : List Part
  pub in_flight : InFlight who reached flight
  pub stands : StandsWith reached.recording.journal flight c

-- Behind a run the disk is the own one of the next journal, of which P holds; a crash at any moment since it began leaves an image that
-- stands for a journal of the run.
pub record LeftBy {D : Type 0} (moment : D → ℕ) (left_since : D → ℕ → List ℕ → Type 0) (old new : D) (k : Kept) (rows : List KeptRow) (images : List ℕ → Type 0) (now : List ℕ) (who : Sender) (r : Run) (P : JournalData → Type 0) : Type 0 where
  pub next : JournalData
  pub desk : IsDeskOf k rows images now next
  pub moments : LeavesOnly moment left_since old new (StandsIn who r)
  pub is : P next

-- ---- how a run ends

-- It has ended and is sealed, or was stopped where a batch couldn't be saved, as a recording ends. The outlet got all that it released.
pub record RunsOut {H : Type 0} (adding : Piece → H → H) (who : Sender) (r : Run) (stop : Option CommitRefusal) (drops : List Drop) (old new : H) (after : Recording) : Type 0 where
  pub turns : List Run
  pub end : Run
  pub are_turns : AreTurns who r turns end
  pub last : Run
  pub last_is : IsLast who end last
  pub stop_is : last.stop ≡ stop
  pub recording : last.recording ≡ after
  pub held : new ≡ all_added adding last.released old
  pub drops_are : last.drops ≡ drops

-- The disk failed, and the batch in flight stays open: nothing of it was released.
pub record Unsaved {H : Type 0} (adding : Piece → H → H) (who : Sender) (r : Run) (drops : List Drop) (old new : H) (after : Recording) : Type 0 where
  pub turns : List Run
  pub end : Run
  pub are_turns : AreTurns who r turns end
  pub journal : after.journal ≡ end.recording.journal
  pub in_flight : InFlight who end after.batch
  pub held : new ≡ all_added adding end.released old
  pub drops_are : end.drops ≡ drops

-- The outlet failed. It got all that was released before, and some of what the last turn or the seal releases, whose batch is saved.
pub record Torn {H : Type 0} (adding : Piece → H → H) (tearing : Piece → H → H → Type 0) (who : Sender) (r : Run) (drops : List Drop) (old new : H) (after : Recording) : Type 0 where
  pub turns : List Run
  pub end : Run
  pub are_turns : AreTurns who r turns end
  pub last : Run
  pub last_is : IsTurn who end last ⊎ (HasEnded end × (last ≡ seal_run who end))
  pub goes_on : last.stop ≡ None
  pub recording : last.recording ≡ after
  pub pieces : List Piece
  pub released : last.released ≡ end.released ++ pieces
  pub held : CutsAmong adding tearing pieces (all_added adding end.released old) new
  pub drops_are : end.drops ≡ drops

-- The line of an event that the last turn dropped couldn't be printed, and nothing more is done.
pub record Unprinted {H : Type 0} (adding : Piece → H → H) (who : Sender) (r : Run) (drops : List Drop) (old new : H) (after : Recording) : Type 0 where
  pub turns : List Run
  pub end : Run
  pub are_turns : AreTurns who r turns end
  pub goes_on : end.stop ≡ None
  pub recording : end.recording ≡ after
  pub held : new ≡ all_added adding end.released old
  pub drops_are : end.drops ≡ drops

-- by what is answered; `drops` are the events whose lines were printed, or were to be
abbrev pub RunEnds : {T H : Type 0} → (Piece → H → H) → (Piece → H → H → Type 0) → Sender → Run → List Drop → H → H → Recording → Result T RunStop → Type 0
RunEnds adding tearing who r drops old new after (Ok n) = RunsOut adding who r None drops old new after
RunEnds adding tearing who r drops old new after (Err LeavesSpent) = RunsOut adding who r (Some NoLeaf) drops old new after
RunEnds adding tearing who r drops old new after (Err Full) = RunsOut adding who r (Some NoRoom) drops old new after
RunEnds adding tearing who r drops old new after (Err DiskFault) = Unsaved adding who r drops old new after
RunEnds adding tearing who r drops old new after (Err OutletFault) = Torn adding tearing who r drops old new after
RunEnds adding tearing who r drops old new after (Err SinkFault) = Unprinted adding who r drops old new after
