-- A node that is opened again behind a crash.
use Rattle.std.specs.Prelude.{◌≡◌, ℕ, List, [], Option, None, Some, Result, Ok, Err, IsErr}
use Rattle.avm_num.specs.declared.buffer.NoMemory.{NoMemory}
use Rattle.avm_model.specs.Keys.{KeyData}
use Rattle.avm_outside.specs.MemDisks.{disk_bytes, disk_faults}
use Rattle.avm_outside.specs.declared.mem_disk.MemDisk.{MemDisk}
use Rattle.journal_model.specs.Journal.{Is, JournalData, journal_of}
use Rattle.record_open.specs.Counts.{OpenCounts}
use Rattle.record_open.specs.Opening.{AttachAnswers, IsAllowed, IsDesk}
use Rattle.record_open.specs.declared.fault.RecordFault.{RecordFault}
use Rattle.record_open.specs.declared.fault.RecordFault.TheVariants as fault
use Rattle.record_turn.specs.declared.desk.Desk.{Desk}
use Rattle.recorder.specs.Recorder.{desk_of, stop_of}
use Rattle.recorder.specs.declared.recorder.Recorder.{Recorder}
use Rattle.world_core.specs.Turns.{IsDiskOf, may_leave}
use Rattle.world_core.specs.declared.types.Stepped.{Stepped}
use Rattle.world_core.specs.declared.types.Stepped.TheVariants as step

-- The disk has the image, and a crash leaves nothing else of it; the recorder is opened on it under this key, with the journal that the
-- image stands for, and nothing unsaved.
pub record OpensOn (d : MemDisk) (r : Recorder) (key : KeyData) (image : List ℕ) : Type 0 where
  pub bytes : disk_bytes d ≡ image
  pub only : (c : List ℕ) → may_leave d c → c ≡ image
  pub runs : stop_of r ≡ None
  pub empty : (desk_of r).store.batch.parts ≡ []
  pub key_is : (desk_of r).press.key ≡ key
  pub journal : JournalData
  pub stands : journal_of image ≡ Is journal
  pub allowed : IsAllowed key journal
  pub disk : IsDiskOf d (desk_of r) journal
  pub desk : IsDesk journal (desk_of r)

-- opening answers this fault, which isn't want of memory, on a disk with the image
pub record FailsOn (old new : MemDisk) (key : KeyData) (image : List ℕ) (why : RecordFault) : Type 0 where
  pub other : why ≡ fault.NoMemory → ⊥
  pub answers : AttachAnswers key (Err why) (may_leave new) image
  pub counts : OpenCounts {T = Desk} (disk_faults old) (disk_faults new) (Err why)

-- How a crash ends at a node that had this disk and whose key this is: it is opened again on the image, or it is down, for want of memory
-- or by a fault of opening.
pub data Crashed (old new : MemDisk) (o : Option Recorder) (key : KeyData) (image : List ℕ) (result : Result Stepped NoMemory) : Type 0 where
  Reopens : (r : Recorder) → o ≡ Some r → result ≡ Ok step.Reopened → OpensOn new r key image → Crashed old new o key image result
  Wants : o ≡ None → IsErr result → Crashed old new o key image result
  Fails : (why : RecordFault) → o ≡ None → result ≡ Ok step.Down → FailsOn old new key image why → Crashed old new o key image result

-- want of memory is told as such
abbrev pub IsDown : RecordFault → Result Stepped NoMemory → Type 0
IsDown fault.NoMemory result = IsErr result
IsDown why result = result ≡ Ok step.Down

-- a node that was down stays so
abbrev pub CrashedIfUp : Option Recorder → MemDisk → MemDisk → Option Recorder → List ℕ → Result Stepped NoMemory → Type 0
CrashedIfUp None old new o image result = (new ≡ old) × (o ≡ None) × (result ≡ Ok step.Down)
CrashedIfUp (Some r) old new o image result = Crashed old new o (desk_of r).press.key image result
