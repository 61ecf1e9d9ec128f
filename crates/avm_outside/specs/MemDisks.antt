-- What a disk in memory shows.
use Rattle.std.specs.Prelude.{ℕ, List, option_map, unwrap_or}
use Rattle.avm_outside.specs.DiskLog.{DiskState, state_upto}
use Rattle.avm_outside.specs.declared.mem_disk.MemDisk.{MemDisk}

-- the bytes that are read
abbrev pub disk_bytes : MemDisk → List ℕ
disk_bytes d = unwrap_or (option_map (λ v. v.items) d.changed) d.base.items

-- the numbers of the calls that fail
abbrev pub disk_fails : MemDisk → List ℕ
disk_fails d = d.calls.fails.items

-- how many calls there were
abbrev pub disk_calls : MemDisk → ℕ
disk_calls d = d.calls.calls

abbrev pub disk_faults : MemDisk → ℕ
disk_faults d = d.calls.faults

-- its state after its first calls, so many
abbrev pub disk_state : MemDisk → ℕ → DiskState
disk_state d calls = state_upto d.base.items calls d.log.items

-- its state now
abbrev pub state_now : MemDisk → DiskState
state_now d = disk_state d (disk_calls d)
