-- How retaining a store ends by its answer: its line and its status.
use Rattle.std.specs.Prelude.{ℕ, List, ◌++◌, codes, Result, Ok, Err}
use Rattle.std.specs.Fmt.{decimal}
use Rattle.store_move.specs.declared.fault.RetainFault.{RetainFault}
use Rattle.store_move.specs.declared.fault.RetainFault.TheVariants as fault

-- what retaining a store answers
abbrev pub Answer : Type 0
Answer = Result (Unit {0}) RetainFault

-- 0 retained; 2 refused by content; 4 a fault of the outside; 5 want of memory
abbrev pub status_of : Answer → ℕ
status_of (Ok t) = 0
status_of (Err fault.NoMemory) = 5
status_of (Err fault.DiskFault) = 4
status_of (Err fault.SpareFault) = 4
status_of (Err fault.NoStore) = 2
status_of (Err (fault.Damaged p)) = 2
status_of (Err (fault.Unreplayed n)) = 2
status_of (Err fault.Range) = 2
status_of (Err fault.NotEmpty) = 2
status_of (Err fault.Full) = 2
status_of (Err fault.OtherSpare) = 2

-- the store goes on from this entry on the other disk
abbrev pub retained_text : ℕ → List ℕ
retained_text at = codes "retained " ++ decimal at

abbrev pub text_of : ℕ → Answer → List ℕ
text_of at (Ok t) = retained_text at
text_of at (Err fault.NoMemory) = codes "no memory"
text_of at (Err fault.DiskFault) = codes "fault disk"
text_of at (Err fault.SpareFault) = codes "fault spare"
text_of at (Err fault.NoStore) = codes "refused nostore"
text_of at (Err (fault.Damaged p)) = codes "refused damaged " ++ decimal p
text_of at (Err (fault.Unreplayed n)) = codes "refused journal " ++ decimal n
text_of at (Err fault.Range) = codes "refused range"
text_of at (Err fault.NotEmpty) = codes "refused notempty"
text_of at (Err fault.Full) = codes "refused full"
text_of at (Err fault.OtherSpare) = codes "refused spare"
