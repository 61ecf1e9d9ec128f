-- Keeps: states behind SNAP entries from which a journal is opened without a replay from its header.
use Rattle.std.specs.Prelude.{◌≡◌, ℕ, ◌+◌, ◌-◌, ◌*◌, ◌==◌, ◌&&◌, ◌≤◌, nat_le, Bool, true, false, List, [], ◌∷◌, ◌++◌, Option, Some, None, if◌then◌else◌, ◌⊎◌}
use Rattle.std.specs.Str.{bytes_eq}
use Rattle.avm_num.specs.Bytes.{◌>>=◌, kept}
use Rattle.avm_model.specs.Bell.{version_of}
use Rattle.avm_model.specs.Machine.{State}
use Rattle.avm_model.specs.Memory.{put_page}
use Rattle.avm_model.specs.Head.{HeadData}
use Rattle.avm_model.specs.HeadReading.{head_of}
use Rattle.avm_model.specs.HeadState.{state_of}
use Rattle.avm_model.specs.Content.{ContentData, content_at}
use Rattle.avm_model.specs.Frame.{FrameData}
use Rattle.avm_model.specs.Rerun.{Stands, start, after}
use Rattle.avm_model.specs.Reference.{timed, entries_of, IsFaultNumber}
use Rattle.avm_model.specs.Audit.{commits_to, behind_first}
use Rattle.avm_model.specs.declared.Peer.{Peer}
use Rattle.honest_model.specs.Honest.{IsFaultFrom, header_state, log_of}
use Rattle.journal_model.specs.Header.{HeaderData}
use Rattle.journal_model.specs.Journal.{JournalData, next_number, parts}
use Rattle.journal_model.specs.Part.{KeepData, PageData, Part, entry, frames_in, keep, keeps_in, pages_of, seal}
use Rattle.journal_model.specs.Standing.{behind}

-- ---- the state of a keep

-- pages take the places of those with their numbers, in order
abbrev pub with_pages : List ℕ → List PageData → List ℕ
with_pages ram [] = ram
with_pages ram (p ∷ ps) = with_pages (put_page ram p.number p.bytes) ps

-- the header's pages, changed by the pages of each keep in order
abbrev pub kept_ram : List ℕ → List KeepData → List ℕ
kept_ram ram [] = ram
kept_ram ram (k ∷ ks) = kept_ram (with_pages ram (pages_of k)) ks

-- the same ids and keys
abbrev pub same_peers : List Peer → List Peer → Bool
same_peers [] [] = true
same_peers [] (q ∷ qs) = false
same_peers (p ∷ ps) [] = false
same_peers (p ∷ ps) (q ∷ qs) = p.id == q.id && bytes_eq p.key q.key && same_peers ps qs

-- the same machine as the header's: version, K, pages, own id, peers
abbrev pub same_front : HeadData → HeadData → Bool
same_front a b =
    version_of a.bell == version_of b.bell &&
    a.front.snap == b.front.snap && a.front.pages == b.front.pages && a.front.own == b.front.own && same_peers a.front.peers b.front.peers

-- the count at the journal's first entry
abbrev pub first_count : ℕ → HeadData → ℕ
first_count first h = if first == 1 then 0 else h.hart.count

-- an entry costs at most K steps
abbrev pub within_steps : ℕ → HeadData → ℕ → HeadData → Bool
within_steps first a seq b = nat_le b.hart.count (first_count first a + a.front.snap * (seq - first))

-- The state of a keep behind these keeps: its head, with the header's pages changed by those of each keep up to it. None where the
-- head isn't one, or is of another machine than the header's, or has a count that no entry of its number has.
abbrev pub keep_state : HeaderData → List KeepData → KeepData → Option State
keep_state h earlier k = do
  a ← head_of h.head
  b ← head_of k.head
  kept (same_front a b && within_steps h.first a k.seq b) (state_of b (kept_ram h.pages (earlier ++ k ∷ [])))

-- ---- good keeps and true keeps; a keep stands directly behind its SNAP entry

-- the last of the entries
abbrev pub last_frame : List FrameData → Option FrameData
last_frame [] = None
last_frame (f ∷ []) = Some f
last_frame (f ∷ g ∷ fs) = last_frame (g ∷ fs)

abbrev pub content_of : Option FrameData → Option ContentData
content_of None = None
content_of (Some f) = content_at f.kind f.content

-- the keep behind these parts has a state, with the root and the count of its SNAP entry
pub record IsGood (h : HeaderData) (before : List Part) (k : KeepData) (s : State) : Type 0 where
  pub state : keep_state h (keeps_in before) k ≡ Some s
  pub committed : commits_to s (content_of (last_frame (frames_in before))) ≡ true

-- the keep behind these parts has the state that the entries up to its SNAP entry give from the header, with no output lacking
pub record IsTrueKeep (h : HeaderData) (before : List Part) (k : KeepData) : Type 0 where
  pub from : State
  pub to : State
  pub header : header_state h ≡ Some from
  pub state : keep_state h (keeps_in before) k ≡ Some to
  pub stands : Stands timed from (log_of before) (start to)

-- each keep among the parts behind these is true
abbrev pub AreTrue : HeaderData → List Part → List Part → Type 0
AreTrue h before [] = Unit {0}
AreTrue h before (entry f ∷ ps) = AreTrue h (before ++ entry f ∷ []) ps
AreTrue h before (seal ∷ ps) = AreTrue h (before ++ seal ∷ []) ps
AreTrue h before (keep k ∷ ps) = IsTrueKeep h before k × AreTrue h (before ++ keep k ∷ []) ps

abbrev pub HasTrueKeeps : JournalData → Type 0
HasTrueKeeps j = AreTrue j.header [] (parts j)

-- ---- bases

-- the last entry's number
abbrev pub last_of : JournalData → ℕ
last_of j = next_number j - 1

-- the parts in front are those up to a good keep of a number at most n, and this is its state
pub record IsKeepBase (j : JournalData) (n : ℕ) (front : List Part) (s : State) : Type 0 where
  pub before : List Part
  pub last : KeepData
  pub front_is : front ≡ before ++ keep last ∷ []
  pub low : last.seq ≤ n
  pub good : IsGood j.header before last s

-- the header's state, in front of all parts
pub record IsHeaderBase (j : JournalData) (front : List Part) (s : State) : Type 0 where
  pub front_is : front ≡ []
  pub state : header_state j.header ≡ Some s

-- the base for number n: the last good keep of a number at most n, or the header; it stands between these parts
pub record IsBase (j : JournalData) (n : ℕ) (front behind : List Part) (s : State) : Type 0 where
  pub split : parts j ≡ front ++ behind
  pub base : IsHeaderBase j front s ⊎ IsKeepBase j n front s
  pub last : (a b : List Part) (k : KeepData) (t : State) → behind ≡ a ++ keep k ∷ b → k.seq ≤ n → IsGood j.header (front ++ a) k t → ⊥

-- the entries of numbers up to n
abbrev pub up_to : ℕ → List FrameData → List FrameData
up_to n [] = []
up_to n (f ∷ fs) = if nat_le f.seq n then f ∷ up_to n fs else []

-- behind the header the first entry is to have its root and count; behind a keep all entries are to replay
abbrev pub IsFaultBehind : ℕ → List Part → State → List FrameData → Option ℕ → Type 0
IsFaultBehind first [] s fs fault = IsFaultFrom first s fs fault
IsFaultBehind first (p ∷ ps) s fs fault = IsFaultNumber s fs fault

-- the fault of the entries behind the base for n up to number n
pub record IsStretch (j : JournalData) (n : ℕ) (fault : Option ℕ) : Type 0 where
  pub front : List Part
  pub behind : List Part
  pub state : State
  pub base : IsBase j n front behind state
  pub fault_is : IsFaultBehind j.header.first front state (up_to n (frames_in behind)) fault

-- the fault that opening a journal finds
abbrev pub IsOpenFault : JournalData → Option ℕ → Type 0
IsOpenFault j fault = IsStretch j (last_of j) fault

-- the entries of a log behind a base
abbrev pub frames_behind : List Part → List Part → List FrameData
frames_behind [] behind = behind_first (frames_in behind)
frames_behind (p ∷ ps) behind = frames_in behind

-- the state behind the entries behind the base for the last number: the machine that opening a journal gives
pub record IsOpened (j : JournalData) (s : State) : Type 0 where
  pub front : List Part
  pub behind : List Part
  pub state : State
  pub base : IsBase j (last_of j) front behind state
  pub after_is : s ≡ (after timed state (entries_of (frames_behind front behind))).state
