-- What recording a script on a store leaves.
use Rattle.std.specs.Prelude.{◌≡◌, ◌⊎◌, ◌+◌, ℕ, List, [], length, Option, Some, None, IfSome, Result, Ok, Err}
use Rattle.avm_model.specs.Keys.{KeyData}
use Rattle.avm_model.specs.Machine.{State}
use Rattle.avm_outside.specs.Outside.{BothTold}
use Rattle.avm_script.specs.Listed.{agenda_of}
use Rattle.avm_script.specs.Script.{ScriptData}
use Rattle.avm_outside.specs.Outlet.{all_added}
use Rattle.command_parts.specs.FileMap.{FileMap}
use Rattle.command_parts.specs.declared.fault.Fault.{Fault}
use Rattle.command_parts.specs.declared.fault.Fault.TheVariants as fault
use Rattle.file_outlet.specs.RunFiles.{Held, adding_piece, TornPiece}
use Rattle.format_command.specs.First.{StandsFor}
use Rattle.honest_model.specs.Keeps.{IsOpenFault, IsOpened}
use Rattle.journal_model.specs.Journal.{JournalData, journal_of, Is}
use Rattle.journal_model.specs.Saving.{CommitRefusal, NoLeaf, NoRoom}
use Rattle.journal_model.specs.Standing.{StandingData, standing}
use Rattle.record_model.specs.Recorded.{Drop, Run, IsRecorded, begun}
use Rattle.record_model.specs.Recording.{Recording}
use Rattle.record_model.specs.Released.{Sender}
use Rattle.record_open.specs.Opening.{IsAllowed}
use Rattle.record_run.specs.Runs.{StandsIn, Torn, Unprinted, Unsaved}
use Rattle.record_command.specs.Stores.{RefusesStore}
use Rattle.record_command.specs.declared.ends.End.{End}
use Rattle.record_command.specs.declared.ends.End.TheVariants.{Recorded, RefusedFile, RefusedLeaves, RefusedFull}
use Rattle.record_command.specs.declared.ends.Summary.{Summary}

-- the three files of a run among all files
abbrev pub held_of : List ℕ → List ℕ → List ℕ → FileMap → Held
held_of packets console auths files = record { packets = packets; console = console; auths = auths; files = files }

-- who signs: the private key, under the own id of the machine
abbrev pub sender : KeyData → State → Sender
sender k m = record { key = k; own = m.devices.own }

-- the number of the last entry and of used leaves, by where the journal stands, and whether the machine runs
pub record Sums (at : StandingData) (m : State) (s : Summary) : Type 0 where
  pub entries : s.entries + 1 ≡ at.next
  pub leaves : s.leaves ≡ at.used
  pub state : s.state ≡ m.status

-- ---- where turns are made

-- The bytes stand for a journal that the key may record on, whose entries replay and which opens with this machine; and of both P holds.
pub record OnStore (k : KeyData) (was : List ℕ) (P : JournalData → State → Type 0) : Type 0 where
  pub journal : JournalData
  pub machine : State
  pub is : journal_of was ≡ Is journal
  pub allowed : IsAllowed k journal
  pub replays : IsOpenFault journal None
  pub opened : IsOpened journal machine
  pub holds : P journal machine

-- A recording of the script, or its part up to a batch that can't be saved: the files have all that it released appended, and these
-- events were dropped.
pub record Records (k : KeyData) (s : ScriptData) (stop : Option CommitRefusal) (old new : Held) (drops : List Drop) (P : Recording → Type 0) (j : JournalData) (m : State) : Type 0 where
  pub last : Run
  pub recorded : IsRecorded (sender k m) j (agenda_of s) last
  pub stop_is : last.stop ≡ stop
  pub held : new ≡ all_added adding_piece last.released old
  pub drops_are : last.drops ≡ drops
  pub holds : P last.recording

-- the disk stands for the recorded journal, in a read and in each image that a crash may leave, and the summary is of it
pub record Summed (images : List ℕ → Type 0) (now : List ℕ) (drops : List Drop) (s : Summary) (r : Recording) : Type 0 where
  pub stands : StandsFor r.journal images now
  pub sums : Sums (standing r.journal) r.machine s
  pub dropped : s.dropped ≡ length drops

-- the disk stands for the recorded journal, in a read and in each image that a crash may leave
abbrev pub Stands : (List ℕ → Type 0) → List ℕ → Recording → Type 0
Stands images now r = StandsFor r.journal images now

-- what a fault leaves of a run from an opened journal
abbrev pub Unsaves : KeyData → ScriptData → Held → Held → List Drop → JournalData → State → Type 0
Unsaves k s old new drops j m = (after : Recording) × Unsaved adding_piece (sender k m) (begun j m (agenda_of s)) drops old new after

abbrev pub Tears : KeyData → ScriptData → Held → Held → List Drop → JournalData → State → Type 0
Tears k s old new drops j m = (after : Recording) × Torn adding_piece TornPiece (sender k m) (begun j m (agenda_of s)) drops old new after

abbrev pub Unprints : KeyData → ScriptData → Held → Held → List Drop → JournalData → State → Type 0
Unprints k s old new drops j m = (after : Recording) × Unprinted adding_piece (sender k m) (begun j m (agenda_of s)) drops old new after

-- no turn is made: what the disk tells and the files stay, and nothing is dropped
pub record Untouched (old new : Held) (was now : Option (List ℕ)) (drops : List Drop) : Type 0 where
  pub disk : now ≡ was
  pub files : new ≡ old
  pub none : drops ≡ []

-- Recording with a private key and a script, by how it ends: the files before and after it, what the disk tells before and after it,
-- the images that a crash may leave then, and the events that were dropped.
abbrev pub Leaves : KeyData → ScriptData → Held → Held → Option (List ℕ) → Option (List ℕ) → (List ℕ → Type 0) → List Drop → Result End Fault → Type 0
Leaves k s old new was now images drops (Ok (Recorded summary)) = BothTold was now (λ w n. OnStore k w (Records k s None old new drops (Summed images n drops summary)))
Leaves k s old new was now images drops (Ok RefusedLeaves) = BothTold was now (λ w n. OnStore k w (Records k s (Some NoLeaf) old new drops (Stands images n)))
Leaves k s old new was now images drops (Ok RefusedFull) = BothTold was now (λ w n. OnStore k w (Records k s (Some NoRoom) old new drops (Stands images n)))
Leaves k s old new was now images drops (Ok (RefusedFile option)) = ⊥
Leaves k s old new was now images drops (Ok end) = Untouched old new was now drops × IfSome was (λ w. RefusesStore k w end)
Leaves k s old new was now images drops (Err fault.NoMemory) = Untouched old new was now drops
Leaves k s old new was now images drops (Err fault.Disk) = Untouched old new was now drops ⊎ BothTold was now (λ w n. OnStore k w (Unsaves k s old new drops))
Leaves k s old new was now images drops (Err fault.Files) = BothTold was now (λ w n. OnStore k w (Tears k s old new drops))
Leaves k s old new was now images drops (Err fault.Sink) = BothTold was now (λ w n. OnStore k w (Unprints k s old new drops))

-- an image stands for a journal of a run of the script, from the journal that the bytes stand for
abbrev pub StandsOn : KeyData → ScriptData → List ℕ → List ℕ → Type 0
StandsOn k s was c = OnStore k was (λ j m. StandsIn (sender k m) (begun j m (agenda_of s)) c)
