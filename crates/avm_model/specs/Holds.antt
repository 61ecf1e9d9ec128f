-- When evidence holds, and which evidence an audit writes (docs/FORMATS.md, "Evidence").
use Rattle.std.specs.Prelude.{◌≡◌, ◌≢◌, ℕ, ◌≤◌, ◌==◌, Bool, true, false, List, [], ◌∷◌, Option, Some, None, if◌then◌else◌, slice_get}
use Rattle.avm_num.specs.Lists.{list_bytes}
use Rattle.avm_num.specs.Walk.{all_at}
use Rattle.avm_model.specs.Frame.{FrameData, frame_bytes, frame_at}
use Rattle.avm_model.specs.Entries.{numbered}
use Rattle.avm_model.specs.Chain.{top_of}
use Rattle.avm_model.specs.Auth.{AuthData}
use Rattle.avm_model.specs.Head.{HeadData}
use Rattle.avm_model.specs.Segment.{SegmentData, segment_bytes, whole_segment_of}
use Rattle.avm_model.specs.Rerun.{Replays}
use Rattle.avm_model.specs.Reference.{timed, entries_of}
use Rattle.avm_model.specs.Evidence.{EvidData, double, fork, replay, key_of, evidence_at}
use Rattle.avm_model.specs.Marks.{verifies, hash_in, cover}
use Rattle.std.specs.Option.{option_map, option_and_then}
use Rattle.avm_model.specs.Audit.{Judged, snapshot, entry_frames, behind_first, last_number, is_committed, marks_of}
use Rattle.avm_model.specs.declared.judged.Verdict.{Verdict}
use Rattle.avm_model.specs.declared.judged.Verdict.TheVariants.{Double, Fork, Replay}

-- one number, two hashes, and both verify
pub record DoubleHolds (key : List ℕ) (a b : AuthData) : Type 0 where
  pub seq : a.seq ≡ b.seq
  pub apart : a.hash ≢ b.hash
  pub one : verifies key a ≡ true
  pub two : verifies key b ≡ true

-- the bytes are frames from a number to top's, the chain over them gives top's hash, other's number is one of theirs and the chain
-- has another hash there, and both verify
pub record ForkHolds (key : List ℕ) (start : ℕ) (before bytes : List ℕ) (top other : AuthData) (fs : List FrameData) : Type 0 where
  pub frames : all_at frame_at bytes ≡ Some fs
  pub numbers : numbered start fs ≡ true
  pub last : last_number 0 fs ≡ top.seq
  pub chain : top_of before fs ≡ top.hash
  pub from : start ≤ other.seq
  pub to : other.seq ≤ top.seq
  pub apart : hash_in other.seq before fs ≢ Some other.hash
  pub one : verifies key top ≡ true
  pub two : verifies key other ≡ true

-- the bytes are a segment, its last number is top's, its first entry has the snapshot's root and count, the chain gives top's hash,
-- top verifies, and the entries behind the first don't replay
pub record ReplayHolds (key bytes : List ℕ) (top : AuthData) (s : SegmentData) (h : HeadData) : Type 0 where
  pub segment : whole_segment_of bytes ≡ Some (s, h)
  pub last : last_number 0 (entry_frames s) ≡ top.seq
  pub committed : is_committed (snapshot s h) (entry_frames s) ≡ true
  pub chain : top_of s.front.before (entry_frames s) ≡ top.hash
  pub one : verifies key top ≡ true
  pub fault : Replays timed (snapshot s h) (entries_of (behind_first (entry_frames s))) → ⊥

abbrev pub Holds : EvidData → Type 0
Holds (double key a b) = DoubleHolds key a b
Holds (fork key start before frames top other) = (fs : List FrameData) × ForkHolds key start before frames top other fs
Holds (replay key segment top) = (s : SegmentData) × (h : HeadData) × ReplayHolds key segment top s h

-- the bytes are evidence of the key, and it holds
pub record Stands (key bytes : List ℕ) : Type 0 where
  pub «data» : EvidData
  pub read : evidence_at bytes ≡ Some «data»
  pub key_is : key_of «data» ≡ key
  pub holds : Holds «data»

-- ---- what an audit writes

-- the frames up to that of a number
abbrev pub upto : ℕ → List FrameData → List FrameData
upto m [] = []
upto m (f ∷ fs) = if f.seq == m then f ∷ [] else f ∷ upto m fs

-- their bytes
abbrev pub bytes_upto : ℕ → SegmentData → List ℕ
bytes_upto m s = list_bytes frame_bytes (upto m (entry_frames s))

-- the segment cut after the entry of a number
abbrev pub cut : ℕ → SegmentData → SegmentData
cut m s = record s { frames = bytes_upto m s }

abbrev pub with_two : {A B C : Type 0} → (A → B → C) → Option A → Option B → Option C
with_two f None b = None
with_two f (Some a) b = option_map (f a) b

-- for a number with two hashes both authenticators; for a fork the frames up to the cover's number, the cover and the other; for a
-- fault the segment cut after the cover's number, and the cover; for any other verdict nothing
unfoldable pub evidence : List ℕ → Judged → Verdict → Option EvidData
evidence key d (Double i j) = with_two (λ a b. double key a b) (slice_get d.auths i) (slice_get d.auths j)
evidence key d (Fork i j) = with_two (λ top other. fork key d.segment.front.start d.segment.front.before (bytes_upto top.seq d.segment) top other) (slice_get d.auths j) (slice_get d.auths i)
evidence key d (Replay n) = option_and_then (λ j. option_map (λ top. replay key (segment_bytes (cut top.seq d.segment)) top) (slice_get d.auths j.0)) (cover (marks_of d))
evidence key d v = None

-- a verdict that has evidence
abbrev pub has_evidence : Verdict → Bool
has_evidence (Double i j) = true
has_evidence (Fork i j) = true
has_evidence (Replay n) = true
has_evidence v = false
