-- Both nodes before their first exchange.
use Rattle.std.specs.Prelude.{◌≡◌, ℕ, List, [], ◌∷◌, None}
use Rattle.avm_model.specs.Keys.{KeyData, public_of}
use Rattle.avm_model.specs.Machine.{State}
use Rattle.avm_outside.specs.DiskLog.{IsImage}
use Rattle.avm_outside.specs.MemDisks.{disk_bytes, state_now}
use Rattle.avm_outside.specs.declared.mem_disk.MemDisk.{MemDisk}
use Rattle.format_command.specs.First.{first_journal}
use Rattle.format_command.specs.Inputs.{Tells}
use Rattle.honest_model.specs.Keeps.{IsOpened}
use Rattle.journal_model.specs.Journal.{JournalData}
use Rattle.jrnl_store.specs.Kept.{kept as kept_of}
use Rattle.record_ready.specs.Ready.{IsDeskOf}
use Rattle.record_turn.specs.Desk.{rows_of}
use Rattle.recorder.specs.Recorder.{desk_of, stop_of}
use Rattle.recorder.specs.declared.recorder.Recorder.{Recorder}
use Rattle.sample_model.specs.Other.{Side, next_said}
use Rattle.sample_model.specs.Talk.{opening}
use Rattle.sample_node.specs.Node.{sender_in}
use Rattle.sample_talk.specs.Talking.{IsTalk}
use Rattle.sample_talk.specs.declared.talk.Talk.{Talk}
use Rattle.sample_run.specs.Stores.{inputs}

-- the recorder that a journal is opened to, on its disk
pub record IsOpen (j : JournalData) (d : MemDisk) (r : Recorder) : Type 0 where
  pub running : stop_of r ≡ None
  pub empty : (desk_of r).store.batch.parts ≡ []
  pub opened : IsOpened j (desk_of r).machine.state
  pub desk : IsDeskOf (kept_of (desk_of r).store.journal) (rows_of (desk_of r).kept) (IsImage (state_now d)) (disk_bytes d) j

-- The first node's new store of its key, of the other one's public key and of an image is opened; the other one has said what it
-- says first, and the feed has one clock value.
pub record OpensTalk (key : KeyData) (b : Side) (image : List ℕ) (t : Talk) : Type 0 where
  pub state : State
  pub tells : Tells (inputs key (public_of b.log.key) image) key state
  pub machine : State
  pub opened : IsOpened (first_journal key state) machine
  pub who : sender_in t.node ≡ record { key = key; own = machine.devices.own }
  pub talk : IsTalk 1 t (opening (first_journal key state) machine (next_said b) (1000 ∷ []))
