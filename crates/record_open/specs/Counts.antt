-- Faults of a disk while a store is opened.
use Rattle.std.specs.Prelude.{◌≡◌, ℕ, Result, Ok, Err}
use Rattle.avm_outside.specs.Outside.{Rises}
use Rattle.rebut_pass.specs.declared.fault.ReadFault.{ReadFault}
use Rattle.rebut_pass.specs.declared.fault.ReadFault.TheVariants as read
use Rattle.jrnl_store.specs.declared.fault.StoreFault.{StoreFault}
use Rattle.jrnl_store.specs.declared.fault.StoreFault.TheVariants as store
use Rattle.record_open.specs.declared.fault.RecordFault.{RecordFault}
use Rattle.record_open.specs.declared.fault.RecordFault.TheVariants as fault

abbrev pub read_fault : ReadFault → RecordFault
read_fault read.NoMemory = fault.NoMemory
read_fault read.DiskFault = fault.DiskFault

-- opening a journal answers no other
abbrev pub store_fault : StoreFault → RecordFault
store_fault store.NoMemory = fault.NoMemory
store_fault store.DiskFault = fault.DiskFault
store_fault (store.Damaged p) = fault.Damaged p
store_fault other = fault.NoStore

-- the count of the disk's faults rises where opening answers DiskFault, and else stays
abbrev pub OpenCounts : {T : Type 0} → ℕ → ℕ → Result T RecordFault → Type 0
OpenCounts before now (Ok t) = now ≡ before
OpenCounts before now (Err fault.NoMemory) = now ≡ before
OpenCounts before now (Err fault.DiskFault) = Rises before now
OpenCounts before now (Err fault.NoStore) = now ≡ before
OpenCounts before now (Err (fault.Damaged p)) = now ≡ before
OpenCounts before now (Err (fault.Retired n)) = now ≡ before
OpenCounts before now (Err fault.KeyMismatch) = now ≡ before
OpenCounts before now (Err (fault.Unreplayed n)) = now ≡ before
