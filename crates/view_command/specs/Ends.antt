-- How a view ends: its last line and its status.
use Rattle.std.specs.Prelude.{ℕ, List, [], ◌∷◌, ◌++◌, codes}
use Rattle.std.specs.Fmt.{decimal}
use Rattle.command_parts.specs.Printing.{line}
use Rattle.view_command.specs.declared.ends.End.{End}
use Rattle.view_command.specs.declared.ends.End.TheVariants.{Shown, RefusedFile, RefusedMalformed, RefusedUncommitted, RefusedUncovered, RefusedRange}

-- 0 shown; 2 refused by content; 3 the segment's file refused
abbrev pub status_of : End → ℕ
status_of Shown = 0
status_of RefusedFile = 3
status_of e = 2

abbrev pub text_of : End → List ℕ
text_of Shown = []
text_of RefusedFile = codes "refused file --segment"
text_of RefusedMalformed = codes "refused malformed"
text_of RefusedUncommitted = codes "refused uncommitted"
text_of (RefusedUncovered n) = codes "refused uncovered " ++ decimal n
text_of RefusedRange = codes "refused range"

-- the lines behind those of the view: one that says why nothing is shown
abbrev pub end_lines : End → List (List ℕ)
end_lines Shown = []
end_lines e = line (text_of e) ∷ []
