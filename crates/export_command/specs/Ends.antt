-- How an export ends by its answer: its line and its status.
use Rattle.std.specs.Prelude.{ℕ, List, ◌++◌, codes, Result, Ok, Err}
use Rattle.std.specs.Fmt.{decimal}
use Rattle.journal_export.specs.declared.fault.ExportFault.{ExportFault}
use Rattle.journal_export.specs.declared.fault.ExportFault.TheVariants as fault

-- what exporting entries answers
abbrev pub Answer : Type 0
Answer = Result (Unit {0}) ExportFault

-- 0 exported; 2 refused by content; 4 a fault of the outside; 5 want of memory
abbrev pub status_of : Answer → ℕ
status_of (Ok t) = 0
status_of (Err fault.NoMemory) = 5
status_of (Err fault.DiskFault) = 4
status_of (Err fault.FilesFault) = 4
status_of (Err fault.NoStore) = 2
status_of (Err (fault.Damaged p)) = 2
status_of (Err (fault.Unreplayed n)) = 2
status_of (Err fault.Range) = 2

-- the entries `from` to `to` are written
abbrev pub exported_text : ℕ → ℕ → List ℕ
exported_text from to = codes "exported " ++ (decimal from ++ (codes " to " ++ decimal to))

abbrev pub text_of : ℕ → ℕ → Answer → List ℕ
text_of from to (Ok t) = exported_text from to
text_of from to (Err fault.NoMemory) = codes "no memory"
text_of from to (Err fault.DiskFault) = codes "fault disk"
text_of from to (Err fault.FilesFault) = codes "fault files"
text_of from to (Err fault.NoStore) = codes "refused nostore"
text_of from to (Err (fault.Damaged p)) = codes "refused damaged " ++ decimal p
text_of from to (Err (fault.Unreplayed n)) = codes "refused journal " ++ decimal n
text_of from to (Err fault.Range) = codes "refused range"
