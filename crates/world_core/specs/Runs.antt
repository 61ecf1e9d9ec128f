-- What holds of a node between two steps.
use Rattle.std.specs.Prelude.{◌≡◌, Option, None, Some}
use Rattle.avm_model.specs.Keys.{HasTypes}
use Rattle.avm_outside.specs.declared.mem_disk.MemDisk.{MemDisk}
use Rattle.journal_model.specs.Journal.{JournalData}
use Rattle.recorder.specs.Recorder.{desk_of, stop_of}
use Rattle.recorder.specs.declared.recorder.Recorder.{Recorder}
use Rattle.world_core.specs.Turns.{IsDiskOf}

-- the key has the types of a private key file; unless the recorder has stopped, its disk is that of a journal
pub record Runs (d : MemDisk) (r : Recorder) : Type 0 where
  pub types : HasTypes (desk_of r).press.key
  pub disk : stop_of r ≡ None → (j : JournalData) × IsDiskOf d (desk_of r) j

-- a node that is down has no recorder
abbrev pub RunsIfUp : MemDisk → Option Recorder → Type 0
RunsIfUp d None = Unit {0}
RunsIfUp d (Some r) = Runs d r
