-- How formatting ends: its line and its status.
use Rattle.std.specs.Prelude.{ℕ, List, ◌++◌, codes}
use Rattle.format_command.specs.declared.ends.End.{End}
use Rattle.format_command.specs.declared.ends.End.TheVariants.{StoreMade, RefusedFile, RefusedNotEmpty}
use Rattle.format_command.specs.declared.ends.FileOption.{FileOption}
use Rattle.format_command.specs.declared.ends.FileOption.TheVariants.{Key, Config, Image}

-- 0 made; 2 refused by content; 3 an input file refused
abbrev pub status_of : End → ℕ
status_of StoreMade = 0
status_of (RefusedFile option) = 3
status_of RefusedNotEmpty = 2

abbrev pub option_text : FileOption → List ℕ
option_text Key = codes "--key"
option_text Config = codes "--config"
option_text Image = codes "--image"

abbrev pub text_of : End → List ℕ
text_of StoreMade = codes "store made"
text_of (RefusedFile option) = codes "refused file " ++ option_text option
text_of RefusedNotEmpty = codes "refused notempty"
