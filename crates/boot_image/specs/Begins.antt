-- A segment that begins with the boot of an image.
use Rattle.std.specs.Prelude.{◌≡◌, ℕ, ◌==◌, Bool, true, false, List, [], ◌∷◌, Option, None, Some}
use Rattle.avm_model.specs.Audit.{snapshot, entry_frames}
use Rattle.avm_model.specs.Frame.{FrameData}
use Rattle.avm_model.specs.Head.{HeadData}
use Rattle.avm_model.specs.ImageState.{IsImageOf}
use Rattle.avm_model.specs.Segment.{SegmentData}

-- the first entry is BOOT
abbrev pub is_boot_first : List FrameData → Bool
is_boot_first [] = false
is_boot_first (f ∷ fs) = f.kind == 1

-- the segment begins with BOOT, and its snapshot is the image's initial state under the head's version, own id, number
-- of steps between snapshots, page count and peers
abbrev pub BeginsAs : List ℕ → Option (SegmentData × HeadData) → Type 0
BeginsAs image None = ⊥
BeginsAs image (Some s) = (is_boot_first (entry_frames s.0) ≡ true) × IsImageOf (snapshot s.0 s.1) image
