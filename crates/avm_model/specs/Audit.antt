-- An audit: a segment's bytes and authenticators' bytes under a key.
use Rattle.std.specs.Prelude.{◌≡◌, ℕ, ◌^◌, ◌==◌, ◌&&◌, Bool, true, false, List, [], ◌∷◌, length, Option, Some, None, if◌then◌else◌, nat_le, map, All}
use Rattle.std.specs.Str.{bytes_eq}
use Rattle.avm_num.specs.Bytes.{◌>>=◌}
use Rattle.avm_model.specs.Machine.{State}
use Rattle.avm_model.specs.Root.{root}
use Rattle.avm_model.specs.Head.{HeadData}
use Rattle.avm_model.specs.HeadState.{state_of}
use Rattle.avm_model.specs.Content.{ContentData, boot, snap, content_at}
use Rattle.avm_model.specs.Frame.{FrameData, frames_of}
use Rattle.avm_model.specs.Segment.{SegmentData, whole_segment_of}
use Rattle.avm_model.specs.Auth.{AuthData, auths_at}
use Rattle.avm_model.specs.Rerun.{Replays}
use Rattle.avm_model.specs.Reference.{timed, entries_of, IsFaultNumber}
use Rattle.avm_model.specs.Marks.{verifies, hash_in, marked, cover, cover_number}
use Rattle.avm_model.specs.Verdict.{Case, verdict}
use Rattle.avm_model.specs.declared.judged.Marked.{Marked}
use Rattle.avm_model.specs.declared.judged.Verdict.{Verdict}
use Rattle.avm_model.specs.declared.judged.Verdict.TheVariants.{Malformed, Accepted}

-- what is read: a segment, its head, and authenticators
pub record Judged : Type 0 where
  pub segment : SegmentData
  pub head : HeadData
  pub auths : List AuthData

-- a file of authenticators within its limit
unfoldable pub auths_within : List ℕ → Option (List AuthData)
auths_within bytes = if nat_le (length bytes) (2 ^ 24) then auths_at bytes else None

-- none where the segment, its head or the authenticators are outside their grammar or limit
unfoldable pub judged_of : List ℕ → List ℕ → Option Judged
judged_of segment auths = do
  s ← whole_segment_of segment
  list ← auths_within auths
  Some (record { segment = s.0; head = s.1; auths = list })

-- the snapshot's state, the hash before the entries, and the entries
abbrev pub snapshot : SegmentData → HeadData → State
snapshot s h = state_of h s.pages

abbrev pub entry_frames : SegmentData → List FrameData
entry_frames s = frames_of s.frames

-- the entries behind the first
abbrev pub behind_first : List FrameData → List FrameData
behind_first [] = []
behind_first (f ∷ fs) = fs

-- the number of the last, or n where there is none
abbrev pub last_number : ℕ → List FrameData → ℕ
last_number n [] = n
last_number n (f ∷ fs) = last_number f.seq fs

-- a content with a root and a count has those of the state
abbrev pub commits_to : State → Option ContentData → Bool
commits_to s (Some (boot count r)) = count == s.count && bytes_eq r (root s)
commits_to s (Some (snap count r)) = count == s.count && bytes_eq r (root s)
commits_to s content = false

-- the first entry has the root and the count of the state
unfoldable pub is_committed : State → List FrameData → Bool
is_committed s [] = false
is_committed s (f ∷ fs) = commits_to s (content_at f.kind f.content)

-- the case of the verdict's table; the fault is that of the entries behind the first
unfoldable pub case_of : List ℕ → Judged → Option ℕ → Case
case_of key d fault = record {
  key = key;
  first = d.segment.front.start;
  last = last_number 0 (entry_frames d.segment);
  before = d.segment.front.before;
  frames = entry_frames d.segment;
  committed = is_committed (snapshot d.segment d.head) (entry_frames d.segment);
  fault = fault;
  auths = d.auths;
}

-- each authenticator against the segment's chain
abbrev pub marks_of : Judged → List Marked
marks_of d = map (marked d.segment.front.before (entry_frames d.segment)) d.auths

-- n is the number of the first entry behind the first that doesn't replay from the snapshot, or none
abbrev pub IsFaultOf : Judged → Option ℕ → Type 0
IsFaultOf d fault = IsFaultNumber (snapshot d.segment d.head) (behind_first (entry_frames d.segment)) fault

abbrev pub IsVerdictOn : List ℕ → Option Judged → Verdict → Type 0
IsVerdictOn key None v = v ≡ Malformed
IsVerdictOn key (Some d) v = (fault : Option ℕ) × IsFaultOf d fault × (v ≡ verdict (case_of key d fault))

-- the verdict on bytes under a key
abbrev pub IsVerdict : List ℕ → List ℕ → List ℕ → Verdict → Type 0
IsVerdict key segment auths v = IsVerdictOn key (judged_of segment auths) v

-- ---- acceptance as a conjunction

pub record IsAccepted (key : List ℕ) (d : Judged) : Type 0 where
  -- every authenticator verifies
  pub verified : All (λ a. verifies key a ≡ true) d.auths
  -- its number is an entry's, and its hash is the chain's there
  pub matching : All (λ a. hash_in a.seq d.segment.front.before (entry_frames d.segment) ≡ Some a.hash) d.auths
  -- the first entry has the snapshot's root and count
  pub committed : is_committed (snapshot d.segment d.head) (entry_frames d.segment) ≡ true
  -- the reference machine, fed the logged inputs at their counts, gives exactly the logged outputs
  pub replays : Replays timed (snapshot d.segment d.head) (entries_of (behind_first (entry_frames d.segment)))

abbrev pub accepted_as : Judged → Verdict
accepted_as d = Accepted d.segment.front.start (last_number 0 (entry_frames d.segment)) (cover_number (cover (marks_of d)))

-- the bytes are a segment and authenticators that are accepted
abbrev pub IsAcceptedBytes : List ℕ → List ℕ → List ℕ → Type 0
IsAcceptedBytes key segment auths = (d : Judged) × (judged_of segment auths ≡ Some d) × IsAccepted key d

-- the verdict is acceptance exactly there, with the first number, the last and the cover's
pub record IsAcceptance (key segment auths : List ℕ) (v : Verdict) : Type 0 where
  pub only : (first last cover : ℕ) → v ≡ Accepted first last cover → IsAcceptedBytes key segment auths
  pub every : (d : Judged) → judged_of segment auths ≡ Some d → IsAccepted key d → v ≡ accepted_as d
