-- The first node's recorder over objects in memory, as a run.
use Rattle.std.specs.Prelude.{◌≡◌, None, Some, Result, Ok, Err}
use Rattle.avm_outside.specs.DiskLog.{IsImage}
use Rattle.avm_outside.specs.MemDisks.{disk_bytes, state_now}
use Rattle.avm_outside.specs.MemFeed.{feed_agenda}
use Rattle.avm_outside.specs.MemOutlets.{outlet_released}
use Rattle.jrnl_store.specs.Kept.{kept as kept_of}
use Rattle.jrnl_store.specs.Own.{IsOwn}
use Rattle.journal_model.specs.Saving.{CommitRefusal}
use Rattle.record_laws.specs.Turns.{IsTurn}
use Rattle.record_model.specs.Recorded.{HasEnded, Run, seal_run}
use Rattle.record_model.specs.Released.{Sender}
use Rattle.record_ready.specs.Ready.{IsDeskOf}
use Rattle.record_turn.specs.Desk.{rows_of}
use Rattle.recorder.specs.Recorder.{desk_of, stop_of}
use Rattle.sample_model.specs.Talk.{released_by}
use Rattle.sample_node.specs.declared.node.Node.{Node}
use Rattle.sample_node.specs.declared.node.Progress.{Progress}
use Rattle.sample_node.specs.declared.node.Progress.TheVariants.{GoesOn, Ended, Stopped}

-- who signs
abbrev pub sender_in : Node → Sender
sender_in n = record { key = (desk_of n.recorder).press.key; own = (desk_of n.recorder).machine.state.devices.own }

-- what a run has left: its journal, on the disk; its machine; and what it has released
pub record IsLeft (n : Node) (r : Run) : Type 0 where
  pub own : IsOwn (kept_of (desk_of n.recorder).store.journal) (IsImage (state_now n.disk)) (disk_bytes n.disk) r.recording.journal
  pub machine : (desk_of n.recorder).machine.state ≡ r.recording.machine
  pub held : outlet_released n.outlet ≡ released_by r

-- a run that goes on
pub record IsNode (n : Node) (r : Run) : Type 0 where
  pub running : stop_of n.recorder ≡ None
  pub goes : r.stop ≡ None
  pub disk : IsDeskOf (kept_of (desk_of n.recorder).store.journal) (rows_of (desk_of n.recorder).kept) (IsImage (state_now n.disk)) (disk_bytes n.disk) r.recording.journal
  pub batch : (desk_of n.recorder).store.batch.parts ≡ r.recording.batch
  pub machine : (desk_of n.recorder).machine.state ≡ r.recording.machine
  pub script : feed_agenda n.feed ≡ r.script
  pub held : outlet_released n.outlet ≡ released_by r

-- ---- a turn

-- a turn was made, and the run goes on
pub record Turned (who : Sender) (n : Node) (before : Run) : Type 0 where
  pub run : Run
  pub turn_is : IsTurn who before run
  pub node : IsNode n run

-- a turn was made by which the run is stopped: its batch can't be saved
pub record Stops (who : Sender) (n : Node) (before : Run) : Type 0 where
  pub run : Run
  pub turn_is : IsTurn who before run
  pub why : CommitRefusal
  pub stop : run.stop ≡ Some why
  pub same : released_by run ≡ released_by before
  pub left : IsLeft n run

abbrev pub TurnEnds : {E : Type 0} → Sender → Node → Run → Result Progress E → Type 0
TurnEnds who n r (Ok GoesOn) = Turned who n r
TurnEnds who n r (Ok Ended) = HasEnded r × IsNode n r
TurnEnds who n r (Ok Stopped) = Stops who n r
TurnEnds who n r (Err e) = Unit {0}

-- ---- a seal

abbrev pub SealEnds : {T E : Type 0} → Sender → Node → Run → Result T E → Type 0
SealEnds who n r (Ok t) = IsLeft n (seal_run who r)
SealEnds who n r (Err e) = Unit {0}
