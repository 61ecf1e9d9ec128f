-- Faults of the disk and of the files while a segment is exported.
use Rattle.std.specs.Prelude.{◌≡◌, ℕ, Result, Ok, Err}
use Rattle.avm_outside.specs.Outside.{Rises}
use Rattle.jrnl_store.specs.declared.fault.StoreFault.{StoreFault}
use Rattle.jrnl_store.specs.declared.fault.StoreFault.TheVariants as store
use Rattle.rebut_pass.specs.declared.fault.ReadFault.{ReadFault}
use Rattle.rebut_pass.specs.declared.fault.ReadFault.TheVariants as read
use Rattle.journal_export.specs.declared.fault.ExportFault.{ExportFault}
use Rattle.journal_export.specs.declared.fault.ExportFault.TheVariants as fault

abbrev pub read_fault : ReadFault → ExportFault
read_fault read.NoMemory = fault.NoMemory
read_fault read.DiskFault = fault.DiskFault

-- opening a journal answers no other
abbrev pub store_fault : StoreFault → ExportFault
store_fault store.NoMemory = fault.NoMemory
store_fault store.DiskFault = fault.DiskFault
store_fault (store.Damaged p) = fault.Damaged p
store_fault other = fault.NoStore

-- the count of the disk's faults rises where the answer is DiskFault, and else stays
abbrev pub DiskCounts : {T : Type 0} → ℕ → ℕ → Result T ExportFault → Type 0
DiskCounts before now (Ok t) = now ≡ before
DiskCounts before now (Err fault.NoMemory) = now ≡ before
DiskCounts before now (Err fault.DiskFault) = Rises before now
DiskCounts before now (Err fault.FilesFault) = now ≡ before
DiskCounts before now (Err fault.NoStore) = now ≡ before
DiskCounts before now (Err (fault.Damaged p)) = now ≡ before
DiskCounts before now (Err (fault.Unreplayed n)) = now ≡ before
DiskCounts before now (Err fault.Range) = now ≡ before

-- the count of the files' faults rises where the answer is FilesFault, and else stays
abbrev pub FilesCounts : {T : Type 0} → ℕ → ℕ → Result T ExportFault → Type 0
FilesCounts before now (Ok t) = now ≡ before
FilesCounts before now (Err fault.NoMemory) = now ≡ before
FilesCounts before now (Err fault.DiskFault) = now ≡ before
FilesCounts before now (Err fault.FilesFault) = Rises before now
FilesCounts before now (Err fault.NoStore) = now ≡ before
FilesCounts before now (Err (fault.Damaged p)) = now ≡ before
FilesCounts before now (Err (fault.Unreplayed n)) = now ≡ before
FilesCounts before now (Err fault.Range) = now ≡ before
