-- The entries of a segment (docs/FORMATS.md, Segment).
use Rattle.std.specs.Prelude.{ℕ, ◌+◌, ◌==◌, ◌&&◌, not, nat_le, Bool, true, false, List, [], ◌∷◌, if◌then◌else◌}
use Rattle.avm_model.specs.Basics.{flag}
use Rattle.avm_model.specs.Frame.{FrameData, frame_at, frames_of}
use Rattle.avm_num.specs.Walk.{behind_of, is_nil}

-- the numbers run on from n
abbrev pub numbered : ℕ → List FrameData → Bool
numbered n [] = true
numbered n (f ∷ fs) = f.seq == n && numbered (n + 1) fs

-- none of them is BOOT
abbrev pub no_boot : List FrameData → Bool
no_boot [] = true
no_boot (f ∷ fs) = not (f.kind == 1) && no_boot fs

-- how many of them are SNAP
abbrev pub snaps : List FrameData → ℕ
snaps [] = 0
snaps (f ∷ fs) = flag (f.kind == 2) + snaps fs

-- zero bytes alone
abbrev pub all_zero : List ℕ → Bool
all_zero [] = true
all_zero (b ∷ bytes) = b == 0 && all_zero bytes

-- the first is BOOT exactly where its number is 1, and then the hash before it is zero bytes; else it is SNAP
abbrev pub begins : ℕ → List ℕ → ℕ → Bool
begins start before kind = if start == 1 then kind == 1 && all_zero before else kind == 2

-- entries with numbers from n on behind k SNAP entries: no BOOT, and at most 64 SNAP in all
abbrev pub follow : ℕ → ℕ → List FrameData → Bool
follow n k fs = numbered n fs && no_boot fs && nat_le (k + snaps fs) 64

-- at least one entry, with numbers from start on, the first as it is to be, no later BOOT, and at most 64 SNAP
abbrev pub opens : ℕ → List ℕ → List FrameData → Bool
opens start before [] = false
opens start before (f ∷ fs) = f.seq == start && begins start before f.kind && follow (start + 1) (flag (f.kind == 2)) fs

-- and nothing stands behind the last entry
unfoldable pub are_entries : ℕ → List ℕ → List ℕ → Bool
are_entries start before bytes = opens start before (frames_of bytes) && is_nil (behind_of frame_at bytes)
