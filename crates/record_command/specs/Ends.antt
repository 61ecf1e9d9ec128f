-- How recording ends: its last line and its status.
use Rattle.std.specs.Prelude.{ℕ, List, ◌++◌, codes}
use Rattle.std.specs.Fmt.{decimal}
use Rattle.avm_model.specs.declared.Status.{Status}
use Rattle.avm_model.specs.declared.Status.TheVariants.{Running, Waiting, Halted}
use Rattle.record_command.specs.declared.ends.End.{End}
use Rattle.record_command.specs.declared.ends.End.TheVariants.{Recorded, RefusedFile, RefusedNoStore, RefusedDamaged, RefusedRetired, RefusedKey, RefusedJournal, RefusedLeaves, RefusedFull}
use Rattle.record_command.specs.declared.ends.FileOption.{FileOption}
use Rattle.record_command.specs.declared.ends.FileOption.TheVariants.{Key, Script}
use Rattle.record_command.specs.declared.ends.Summary.{Summary}

-- 0 recorded; 2 refused by content; 3 an input file refused
abbrev pub status_of : End → ℕ
status_of (Recorded summary) = 0
status_of (RefusedFile option) = 3
status_of e = 2

abbrev pub state_text : Status → List ℕ
state_text Running = codes "running"
state_text Waiting = codes "waiting"
state_text Halted = codes "halted"

abbrev pub summary_text : Summary → List ℕ
summary_text s =
    codes "recorded entries " ++ (decimal s.entries ++ (codes " dropped " ++ (decimal s.dropped ++ (codes " leaves " ++ (decimal s.leaves ++ (codes " " ++ state_text s.state))))))

abbrev pub option_text : FileOption → List ℕ
option_text Key = codes "--key"
option_text Script = codes "--script"

abbrev pub text_of : End → List ℕ
text_of (Recorded summary) = summary_text summary
text_of (RefusedFile option) = codes "refused file " ++ option_text option
text_of RefusedNoStore = codes "refused nostore"
text_of (RefusedDamaged p) = codes "refused damaged " ++ decimal p
text_of RefusedRetired = codes "refused retired"
text_of RefusedKey = codes "refused key"
text_of (RefusedJournal n) = codes "refused journal " ++ decimal n
text_of RefusedLeaves = codes "refused leaves"
text_of RefusedFull = codes "refused full"
