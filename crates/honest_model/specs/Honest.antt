-- When a journal replays from its header, and the state behind its last entry.
use Rattle.std.specs.Prelude.{◌≡◌, ℕ, Bool, true, false, List, [], ◌∷◌, ◌++◌, Option, Some, None, option_map}
use Rattle.avm_model.specs.Machine.{State}
use Rattle.avm_model.specs.HeadReading.{head_of}
use Rattle.avm_model.specs.HeadState.{state_of}
use Rattle.avm_model.specs.Frame.{FrameData}
use Rattle.avm_model.specs.Timed.{Entry}
use Rattle.avm_model.specs.Rerun.{Stands, start, after}
use Rattle.avm_model.specs.Reference.{Given, Made, timed, entries_of, IsFaultNumber}
use Rattle.avm_model.specs.Audit.{is_committed, behind_first, commits_to}
use Rattle.avm_model.specs.Content.{content_at}
use Rattle.journal_model.specs.Header.{HeaderData}
use Rattle.journal_model.specs.Journal.{JournalData, entries, parts}
use Rattle.journal_model.specs.Part.{Part, entry, frames_in}

-- the state of a header, where its head is one
abbrev pub header_state : HeaderData → Option State
header_state h = option_map (λ d. state_of d h.pages) (head_of h.head)

-- the entries behind the first, as a log
abbrev pub log_of : List Part → List (Entry Given Made)
log_of parts = entries_of (behind_first (frames_in parts))

-- whether the first entry has the state's root and count, else the number of that entry; then the first that doesn't replay
abbrev pub IsFaultByRoot : Bool → ℕ → State → List FrameData → Option ℕ → Type 0
IsFaultByRoot true first s fs fault = IsFaultNumber s (behind_first fs) fault
IsFaultByRoot false first s fs fault = fault ≡ Some first

-- of entries from a header's state on; without entries there is no fault
abbrev pub IsFaultFrom : ℕ → State → List FrameData → Option ℕ → Type 0
IsFaultFrom first s [] fault = fault ≡ None
IsFaultFrom first s (f ∷ fs) fault = IsFaultByRoot (is_committed s (f ∷ fs)) first s (f ∷ fs) fault

-- the fault of a journal, or none: the first entry where its root or count isn't that of the header's state, else the first of the
-- others that doesn't replay
abbrev pub IsJournalFault : JournalData → Option ℕ → Type 0
IsJournalFault j fault = (s : State) × (header_state j.header ≡ Some s) × IsFaultFrom j.header.first s (entries j) fault

-- it has no fault, and lacks no output of its last step
pub record IsHonest (j : JournalData) : Type 0 where
  pub some : (f : FrameData) × (fs : List FrameData) × (entries j ≡ f ∷ fs)
  pub fault : IsJournalFault j None
  pub whole : (s : State) → header_state j.header ≡ Some s → (after timed s (log_of (parts j))).pending ≡ []

-- The parts replay from a state, whole, and leave a state: the first entry has the root and the count of the first state.
pub record Leads (from : State) (parts : List Part) (to : State) : Type 0 where
  pub committed : is_committed from (frames_in parts) ≡ true
  pub stands : Stands timed from (log_of parts) (start to)

-- there is a first entry
pub record HasFirst (parts : List Part) : Type 0 where
  pub frame : FrameData
  pub frames : List FrameData
  pub is : frames_in parts ≡ frame ∷ frames

-- What stands from a SNAP entry on: the entry has the root and the count of a state, and the entries behind it replay from there.
pub record Exports (from : State) (before : List Part) (f : FrameData) (behind : List Part) (to : State) : Type 0 where
  pub at : State
  pub leads : Leads from (before ++ entry f ∷ []) at
  pub committed : commits_to at (content_at f.kind f.content) ≡ true
  pub stands : Stands timed at (entries_of (frames_in behind)) (start to)
