-- The new store on a disk in memory.
use Rattle.std.specs.Prelude.{◌≡◌, ℕ, List, Some, codes}
use Rattle.avm_model.specs.Keys.{KeyData, key_bytes}
use Rattle.avm_model.specs.Machine.{State}
use Rattle.avm_outside.specs.DiskLog.{IsImage}
use Rattle.avm_outside.specs.Mem.{mem_file}
use Rattle.avm_outside.specs.MemDisks.{disk_bytes, state_now}
use Rattle.avm_outside.specs.declared.mem_disk.MemDisk.{MemDisk}
use Rattle.avm_outside.specs.declared.mem_files.MemFiles.{MemFiles}
use Rattle.format_command.specs.First.{StandsFor, first_journal}
use Rattle.format_command.specs.Inputs.{Found, Tells}
use Rattle.sample_model.specs.Start.{config_text}

-- files of a private key, of the configuration with the peer's public key, and of an image
abbrev pub inputs : KeyData → List ℕ → List ℕ → Found
inputs key peer image = record { key = Some (key_bytes key); config = Some (config_text peer); image = Some image }

-- files in memory by their names
pub record AreInputs (f : Found) (m : MemFiles) : Type 0 where
  pub key : mem_file m (codes "key") ≡ f.key
  pub config : mem_file m (codes "config") ≡ f.config
  pub image : mem_file m (codes "image") ≡ f.image

-- the disk stands for the store that formatting makes of such files
pub record IsStoreOf (f : Found) (key : KeyData) (d : MemDisk) : Type 0 where
  pub state : State
  pub tells : Tells f key state
  pub stands : StandsFor (first_journal key state) (IsImage (state_now d)) (disk_bytes d)
