-- The state of a segment's machine at each count, and the changes of a word of its RAM.
use Rattle.std.specs.Prelude.{◌≡◌, ℕ, zero, suc, ◌-◌, ◌≤◌, ◌==◌, true, List, [], ◌∷◌, ◌++◌, Option, Some, None, if◌then◌else◌}
use Rattle.avm_model.specs.Machine.{State}
use Rattle.avm_model.specs.Memory.{ram_load}
use Rattle.avm_model.specs.Head.{HeadData}
use Rattle.avm_model.specs.Segment.{SegmentData}
use Rattle.avm_model.specs.Audit.{snapshot, entry_frames, behind_first, is_committed}
use Rattle.avm_model.specs.Timed.{inputs, last_count}
use Rattle.avm_model.specs.Rerun.{Replays}
use Rattle.avm_model.specs.Reference.{Given, timed, entries_of}
use Rattle.view_model.specs.Points.{Point, point, next, IsAt}

-- the run that a segment tells of: the snapshot's state, the logged inputs, and the counts of the snapshot and of the last entry
pub record Run : Type 0 where
  pub start : State
  pub given : List Given
  pub last : ℕ

abbrev pub run_of : SegmentData → HeadData → Run
run_of s h = record
    { start = snapshot s h; given = inputs (entries_of (entry_frames s)); last = last_count timed 0 (entries_of (entry_frames s)) }

-- the first entry has the snapshot's root and count, and the others replay
pub record CanView (s : SegmentData) (h : HeadData) : Type 0 where
  pub committed : is_committed (snapshot s h) (entry_frames s) ≡ true
  pub replays : Replays timed (snapshot s h) (entries_of (behind_first (entry_frames s)))

-- the state at a count, from the snapshot's count to the last entry's: no input at that count has been taken
pub record At (r : Run) (c : ℕ) (t : State) : Type 0 where
  pub high : c ≤ r.last
  pub left : List Given
  pub is : IsAt timed r.start r.given c (point t left)

-- ---- changes of a word

-- a step that changes a word: the count after it, and the word before it and after it
pub record Change : Type 0 where
  pub count : ℕ
  pub old : ℕ
  pub new : ℕ

-- the word of the RAM at an address, where there is one
abbrev pub word_at : ℕ → State → Option ℕ
word_at a s = ram_load s.ram a 4

abbrev pub change_at : ℕ → Option ℕ → Option ℕ → List Change
change_at count (Some old) (Some new) = if old == new then [] else record { count = count; old = old; new = new } ∷ []
change_at count _ _ = []

-- the changes in the next k steps
abbrev pub changes_on : ℕ → Point State Given → (Point State Given → List Change) → Option (Point State Given) → List Change
changes_on a p f None = []
changes_on a p f (Some q) = change_at q.state.count (word_at a p.state) (word_at a q.state) ++ f q

abbrev pub changes_in : ℕ → ℕ → Point State Given → List Change
changes_in a zero p = []
changes_in a (suc k) p = changes_on a p (changes_in a k) (next timed p)

-- the changes of the whole run
abbrev pub changes : ℕ → Run → List Change
changes a r = changes_in a (r.last - r.start.count) (point r.start r.given)
