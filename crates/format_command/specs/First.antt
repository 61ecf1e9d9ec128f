-- A new store: the journal that has BOOT alone.
use Rattle.std.specs.Prelude.{◌≡◌, ◌<◌, ℕ, List, [], length, Option, IfSome, Result, Ok, Err}
use Rattle.avm_model.specs.Head.{head_bytes}
use Rattle.avm_model.specs.HeadState.{data_of}
use Rattle.avm_model.specs.Keys.{KeyData, public_of}
use Rattle.avm_model.specs.Machine.{State}
use Rattle.avm_model.specs.Root.{root}
use Rattle.avm_outside.specs.Outside.{Rises, BothTold}
use Rattle.disk_gates.specs.Writing.{Each}
use Rattle.journal_model.specs.Journal.{JournalData, journal_of, Is}
use Rattle.jrnl_part.specs.First.{new_journal}
use Rattle.command_parts.specs.declared.fault.Fault.{Fault}
use Rattle.command_parts.specs.declared.fault.Fault.TheVariants.{NoMemory, Files, Disk, Sink}
use Rattle.format_command.specs.declared.ends.End.{End}
use Rattle.format_command.specs.declared.ends.End.TheVariants.{StoreMade, RefusedFile, RefusedNotEmpty}

-- BOOT of a state, under the public key of a private key
abbrev pub first_journal : KeyData → State → JournalData
first_journal k s = new_journal (public_of k) (head_bytes (data_of s)) s.ram (root s)

-- what is read stands for a journal, and so does each image that a crash may leave
pub record StandsFor (j : JournalData) (images : List ℕ → Type 0) (now : List ℕ) : Type 0 where
  pub read : journal_of now ≡ Is j
  pub left : Each images (λ c. journal_of c ≡ Is j)

-- what making a store on a disk leaves
abbrev pub Makes : JournalData → Option (List ℕ) → Option (List ℕ) → (List ℕ → Type 0) → Result End Fault → Type 0
Makes j old new images (Ok StoreMade) = BothTold old new (λ was now. (was ≡ []) × StandsFor j images now)
Makes j old new images (Ok RefusedNotEmpty) = IfSome old (λ was. 0 < length was) × (new ≡ old)
Makes j old new images (Ok (RefusedFile option)) = ⊥
Makes j old new images (Err NoMemory) = new ≡ old
Makes j old new images (Err Disk) = Unit {0}
Makes j old new images (Err Files) = ⊥
Makes j old new images (Err Sink) = ⊥

-- the count of the disk's faults rises where a call on it failed, and else stays
abbrev pub CountsDisk : {T : Type 0} → ℕ → ℕ → Result T Fault → Type 0
CountsDisk before now (Ok t) = now ≡ before
CountsDisk before now (Err NoMemory) = now ≡ before
CountsDisk before now (Err Files) = now ≡ before
CountsDisk before now (Err Disk) = Rises before now
CountsDisk before now (Err Sink) = now ≡ before
