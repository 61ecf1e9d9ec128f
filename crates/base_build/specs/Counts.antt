-- Faults of the disk while a base is built.
use Rattle.std.specs.Prelude.{◌≡◌, ℕ, Result, Err}
use Rattle.avm_outside.specs.Outside.{Rises}
use Rattle.rebut_pass.specs.declared.fault.ReadFault.{ReadFault}
use Rattle.rebut_pass.specs.declared.fault.ReadFault.TheVariants as read
use Rattle.store_move.specs.declared.fault.RetainFault.{RetainFault}
use Rattle.store_move.specs.declared.fault.RetainFault.TheVariants as fault

abbrev pub read_fault : ReadFault → RetainFault
read_fault read.NoMemory = fault.NoMemory
read_fault read.DiskFault = fault.DiskFault

-- the count of the disk's faults rises where the answer is DiskFault, and else stays
abbrev pub DiskCounts : {T : Type 0} → ℕ → ℕ → Result T RetainFault → Type 0
DiskCounts before now (Err fault.DiskFault) = Rises before now
DiskCounts before now r = now ≡ before
