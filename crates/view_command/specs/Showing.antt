-- What a view shows of a segment, and when it is refused.
use Rattle.std.specs.Prelude.{◌≡◌, ◌⊎◌, ℕ, ◌+◌, ◌*◌, ◌%◌, ◌^◌, ◌==◌, ◌&&◌, ◌||◌, nat_le, Bool, true, false, List, [], map, length, Option, Some, None}
use Rattle.std.specs.Prelude.{Result, Ok, Err}
use Rattle.avm_model.specs.Audit.{snapshot, entry_frames, behind_first, is_committed}
use Rattle.avm_model.specs.Head.{HeadData}
use Rattle.avm_model.specs.Machine.{State}
use Rattle.avm_model.specs.Reference.{IsFaultAt}
use Rattle.avm_model.specs.Segment.{SegmentData}
use Rattle.view_model.specs.Views.{Run, run_of, CanView, At, changes}
use Rattle.command_parts.specs.Printing.{Prints, PrintsSome, PrintsCut}
use Rattle.command_parts.specs.declared.fault.Fault.{Fault}
use Rattle.command_parts.specs.declared.fault.Fault.TheVariants.{NoMemory, Sink}
use Rattle.view_command.specs.Lines.{state_lines, change_line}
use Rattle.view_command.specs.declared.shown.StateAsked.{StateAsked}
use Rattle.view_command.specs.declared.ends.End.{End}
use Rattle.view_command.specs.declared.ends.End.TheVariants.{Shown, RefusedFile, RefusedMalformed, RefusedUncommitted, RefusedUncovered, RefusedRange}

-- what bytes are read as, by whole_segment_of
abbrev pub Read : Type 0
Read = Option (SegmentData × HeadData)

-- ---- what may be asked

-- the count is one of the run
abbrev pub is_count : Run → ℕ → Bool
is_count r c = nat_le r.start.count c && nat_le c r.last

-- the address is a multiple of 4, and all words from it on are in RAM; no words are nowhere
abbrev pub in_ram : State → ℕ → ℕ → Bool
in_ram s from words = (words == 0) || (from % 4 == 0 && nat_le (2 ^ 31) from && nat_le (from + 4 * words) (2 ^ 31 + length s.ram))

-- ---- what is shown

-- the segment can be viewed as this run
pub record Views (read : Read) (r : Run) : Type 0 where
  pub segment : SegmentData
  pub head : HeadData
  pub is : read ≡ Some (segment, head)
  pub can : CanView segment head
  pub run : r ≡ run_of segment head

-- the lines of the state at a count of the run
pub record ShowsState (a : StateAsked) (read : Read) (lines : List (List ℕ)) : Type 0 where
  pub run : Run
  pub views : Views read run
  pub state : State
  pub at : At run a.count state
  pub count : is_count run a.count ≡ true
  pub words : in_ram state a.from a.words ≡ true
  pub all : lines ≡ state_lines state a.from a.words

-- the lines of the changes of a word
pub record ShowsChanges (address : ℕ) (read : Read) (lines : List (List ℕ)) : Type 0 where
  pub run : Run
  pub views : Views read run
  pub word : in_ram run.start address 1 ≡ true
  pub all : lines ≡ map change_line (changes address run)

-- ---- what is refused, in this order

abbrev pub Refuses : (Read → Type 0) → Read → End → Type 0
Refuses OutOfRange read Shown = ⊥
Refuses OutOfRange read RefusedFile = ⊥
Refuses OutOfRange read RefusedMalformed = read ≡ None
Refuses OutOfRange read RefusedUncommitted = (s : SegmentData) × (h : HeadData) × (read ≡ Some (s, h)) × (is_committed (snapshot s h) (entry_frames s) ≡ false)
Refuses OutOfRange read (RefusedUncovered n) =
    (s : SegmentData) × (h : HeadData) × (read ≡ Some (s, h)) × (is_committed (snapshot s h) (entry_frames s) ≡ true) × IsFaultAt (snapshot s h) (behind_first (entry_frames s)) n
Refuses OutOfRange read RefusedRange = OutOfRange read

-- the count is none of the run, or a word isn't in RAM
abbrev pub StateOutOfRange : StateAsked → Read → Type 0
StateOutOfRange a read =
    (r : Run) × Views read r × ((is_count r a.count ≡ false) ⊎ ((s : State) × At r a.count s × (in_ram s a.from a.words ≡ false)))

abbrev pub ChangesOutOfRange : ℕ → Read → Type 0
ChangesOutOfRange address read = (r : Run) × Views read r × (in_ram r.start address 1 ≡ false)

-- ---- how the showing ends, and what it prints

abbrev pub Leaves : (List (List ℕ) → Type 0) → (End → Type 0) → Result End Fault → ℕ → ℕ → Option (List ℕ) → Option (List ℕ) → Type 0
Leaves Shows Refused (Ok Shown) before now old new = (lines : List (List ℕ)) × Shows lines × Prints lines before now old new
Leaves Shows Refused (Ok end) before now old new = Refused end × Prints [] before now old new
Leaves Shows Refused (Err NoMemory) before now old new = Prints [] before now old new ⊎ ((lines : List (List ℕ)) × Shows lines × PrintsSome lines before now old new)
Leaves Shows Refused (Err Sink) before now old new = (lines : List (List ℕ)) × Shows lines × PrintsCut lines before now old new
Leaves Shows Refused (Err e) before now old new = ⊥

-- why a segment can't be viewed, as an end
abbrev pub IsRefusal : Read → Result End Fault → Type 0
IsRefusal read (Ok end) = Refuses (λ _. ⊥) read end
IsRefusal read (Err NoMemory) = Unit {0}
IsRefusal read (Err e) = ⊥
