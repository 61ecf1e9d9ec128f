-- How an export comes to its line.
use Rattle.std.specs.Prelude.{◌≡◌, ◌⊎◌, ℕ, List, [], ◌∷◌, Option, IfSome, Err}
use Rattle.command_parts.specs.FileMap.{FileMap, SameFiles}
use Rattle.command_parts.specs.Printing.{line, Printed}
use Rattle.format_command.specs.Outcomes.{Counted}
use Rattle.journal_export.specs.Counts.{DiskCounts, FilesCounts}
use Rattle.journal_export.specs.Exporting.{ExportAnswers, WhereUnwritten}
use Rattle.journal_export.specs.declared.fault.ExportFault.TheVariants as fault
use Rattle.export_command.specs.Ends.{Answer, status_of, text_of}

-- what the words ask for: the numbers of the first and the last entry, and the name of the segment's file
pub record Asked : Type 0 where
  pub from : ℕ
  pub to : ℕ
  pub segment : List ℕ

abbrev pub asked : ℕ → ℕ → List ℕ → Asked
asked from to segment = record { from = from; to = to; segment = segment }

-- the answer's line and status are printed
abbrev pub Says : Asked → Answer → ℕ → ℕ → Option (List ℕ) → Option (List ℕ) → ℕ → Type 0
Says a answer before now old new result = Printed (line (text_of a.from a.to answer) ∷ []) (status_of answer) before now old new result

-- The answer that the store's bytes give, where they are told, with its line and its status. But for a segment that is written and
-- for faults of the outside no file is changed.
pub record ExportEnds (a : Asked) (old new : FileMap) (store : Option (List ℕ)) (n : Counted) (before after : Option (List ℕ)) (result : ℕ) : Type 0 where
  pub answer : Answer
  pub store_gives : IfSome store (λ was. ExportAnswers a.from a.to was (old a.segment) (new a.segment) answer)
  pub unwritten : WhereUnwritten answer (SameFiles old new)
  pub counts_disk : DiskCounts n.disk_before n.disk_now answer
  pub counts_files : FilesCounts n.files_before n.files_now answer
  pub said : Says a answer n.out_before n.out_now before after result

-- ---- what is said of an answer

-- a refusal with a number: its line takes memory
abbrev pub HasNumber : Answer → Type 0
HasNumber (Err (fault.Damaged p)) = Unit {0}
HasNumber (Err (fault.Unreplayed n)) = Unit {0}
HasNumber answer = ⊥

-- the answer itself, or want of memory
abbrev pub IsSaidOf : Answer → Answer → Type 0
IsSaidOf answer said = (said ≡ answer) ⊎ ((said ≡ Err fault.NoMemory) × HasNumber answer)
