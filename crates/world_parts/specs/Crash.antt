-- The image that a crash leaves of a disk in memory.
use Rattle.std.specs.Prelude.{ℕ, Bool, List, replicate, if◌then◌else◌}
use Rattle.avm_outside.specs.DiskLog.{DiskState, image_of}

-- of the greatest length that an image may have, or of the least; its free bytes are all this one
abbrev pub crash_length : DiskState → Bool → ℕ
crash_length s long = if long then s.extent.most else s.extent.least

abbrev pub crash_image : DiskState → Bool → ℕ → List ℕ
crash_image s long fill = image_of s (crash_length s long) (replicate (crash_length s long) fill)
