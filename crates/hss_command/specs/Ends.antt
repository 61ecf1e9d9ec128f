-- How a command ends: its line and its status (docs/FORMATS.md, "Lines").
use Rattle.std.specs.Prelude.{ℕ, List, ◌++◌, codes}
use Rattle.std.specs.Fmt.{decimal}
use Rattle.hss_command.specs.declared.ends.FileOption.{FileOption}
use Rattle.hss_command.specs.declared.ends.FileOption.TheVariants.{Key, Public, Endorse, Auths}
use Rattle.hss_command.specs.declared.ends.End.{End}
use Rattle.hss_command.specs.declared.ends.End.TheVariants.{RollMade, Enrolled, Widened, Narrowed, RefusedFile, RefusedNotEmpty, RefusedNoStore, RefusedKey, RefusedLeaves, RefusedMalformed, RefusedBadAuth, RefusedMixed}

-- 0 done; 2 refused by content; 3 an input file refused
abbrev pub status_of : End → ℕ
status_of RollMade = 0
status_of (Enrolled leaf) = 0
status_of (Widened n) = 0
status_of (Narrowed n) = 0
status_of (RefusedFile option) = 3
status_of end = 2

abbrev pub option_text : FileOption → List ℕ
option_text Key = codes "--key"
option_text Public = codes "--public"
option_text Endorse = codes "--endorse"
option_text Auths = codes "--auths"

abbrev pub text_of : End → List ℕ
text_of RollMade = codes "roll made"
text_of (Enrolled leaf) = codes "enrolled " ++ decimal leaf
text_of (Widened n) = codes "widened " ++ decimal n
text_of (Narrowed n) = codes "narrowed " ++ decimal n
text_of (RefusedFile option) = codes "refused file " ++ option_text option
text_of RefusedNotEmpty = codes "refused notempty"
text_of RefusedNoStore = codes "refused nostore"
text_of RefusedKey = codes "refused key"
text_of RefusedLeaves = codes "refused leaves"
text_of RefusedMalformed = codes "refused malformed"
text_of (RefusedBadAuth k) = codes "refused badauth " ++ decimal k
text_of (RefusedMixed k) = codes "refused mixed " ++ decimal k
