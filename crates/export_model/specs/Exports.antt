-- What `export` makes of a journal: the entries of some numbers as a segment, with the snapshot at the first (docs/FORMATS.md, "Segment").
use Rattle.std.specs.Prelude.{◌≡◌, ℕ, ◌^◌, ◌==◌, ◌&&◌, ◌||◌, nat_le, Bool, false, List, [], ◌∷◌, flat_map, length, Option, None, Some, if◌then◌else◌}
use Rattle.avm_model.specs.Entries.{snaps}
use Rattle.avm_model.specs.Frame.{FrameData, frame_bytes}
use Rattle.avm_model.specs.Head.{head_bytes}
use Rattle.avm_model.specs.HeadState.{data_of}
use Rattle.avm_model.specs.Machine.{State}
use Rattle.avm_model.specs.Reference.{timed, entries_of}
use Rattle.avm_model.specs.Rerun.{after}
use Rattle.avm_model.specs.Segment.{SegmentData, segment_bytes}
use Rattle.honest_model.specs.Keeps.{IsBase, IsStretch, frames_behind, last_of, up_to}
use Rattle.journal_model.specs.Journal.{JournalData, entries}
use Rattle.journal_model.specs.Part.{Part}
use Rattle.rebut_model.specs.Texts.{from_number}

-- the entry of number n is BOOT or SNAP
abbrev pub begins_at : ℕ → List FrameData → Bool
begins_at n [] = false
begins_at n (f ∷ fs) = if f.seq == n then f.kind == 1 || f.kind == 2 else begins_at n fs

-- the entries of the numbers from..to
abbrev pub stretch : JournalData → ℕ → ℕ → List FrameData
stretch j from to = up_to to (from_number from j.header.before (entries j)).frames

-- The state behind entry n: that behind the entries up to n from the last good keep of a number at most n, or from the header.
pub record IsStateAt (j : JournalData) (n : ℕ) (s : State) : Type 0 where
  pub front : List Part
  pub behind : List Part
  pub base : State
  pub base_is : IsBase j n front behind base
  pub state : s ≡ (after timed base (entries_of (up_to n (frames_behind front behind)))).state

-- the segment of the entries from..to, s being the state behind entry `from`
abbrev pub segment_for : JournalData → ℕ → ℕ → State → SegmentData
segment_for j from to s = record {
  front = record { start = from; before = (from_number from j.header.before (entries j)).before; head = head_bytes (data_of s) };
  pages = s.ram;
  frames = flat_map frame_bytes (stretch j from to);
}

-- `from` is the number of a BOOT or SNAP entry, `to` stands from there to the last; with at most 64 SNAP, within a segment's limit
abbrev pub in_range : JournalData → ℕ → ℕ → List ℕ → Bool
in_range j from to bytes =
    begins_at from (entries j) && nat_le from to && nat_le to (last_of j) && nat_le (snaps (stretch j from to)) 64 && nat_le (length bytes) (2 ^ 26)

-- ---- what is answered

pub data Answer : Type 0 where
  unreplayed : ℕ → Answer
  range : Answer
  exported : List ℕ → Answer

-- the first entry that doesn't replay up to `from`; else the range; else the segment's bytes
abbrev pub IsExportOf : Option ℕ → JournalData → ℕ → ℕ → Answer → Type 0
IsExportOf (Some n) j from to answer = answer ≡ unreplayed n
IsExportOf None j from to answer =
    (s : State) × IsStateAt j from s × (answer ≡ (if in_range j from to (segment_bytes (segment_for j from to s)) then exported (segment_bytes (segment_for j from to s)) else range))

pub record IsExport (j : JournalData) (from to : ℕ) (answer : Answer) : Type 0 where
  pub fault : Option ℕ
  pub stretch_is : IsStretch j from fault
  pub answer_is : IsExportOf fault j from to answer
