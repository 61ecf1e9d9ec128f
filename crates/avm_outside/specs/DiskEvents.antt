-- The calls that a disk in memory keeps, and what it shows.
use Rattle.std.specs.Prelude.{ℕ, length}
use Rattle.avm_outside.specs.DiskLog.{Change, wrote, missed, synced, Extent}
use Rattle.avm_outside.specs.declared.disk_event.Change.{Change as CodeChange}
use Rattle.avm_outside.specs.declared.disk_event.Change.TheVariants.{Wrote, Missed, Synced}
use Rattle.avm_outside.specs.declared.disk_event.Range.{Range}
use Rattle.avm_outside.specs.declared.disk_event.Reach.{Reach}

abbrev pub change_of : ℕ → CodeChange → Change
change_of at (Wrote bytes) = wrote at bytes.items
change_of at (Missed n) = missed at n
change_of at Synced = synced

-- how many bytes the change writes
abbrev pub change_size : CodeChange → ℕ
change_size (Wrote bytes) = length bytes.items
change_size (Missed n) = n
change_size Synced = 0

abbrev pub range_view : Range → ℕ × ℕ
range_view r = (r.at, r.len)

abbrev pub extent_view : Reach → Extent
extent_view r = record { now = r.now; least = r.least; most = r.most }
