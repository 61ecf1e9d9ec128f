-- How a listing ends: its last line and its status.
use Rattle.std.specs.Prelude.{ℕ, List, [], ◌∷◌, ◌++◌, codes}
use Rattle.std.specs.Fmt.{decimal}
use Rattle.command_parts.specs.Printing.{line}
use Rattle.list_command.specs.declared.ends.End.{End}
use Rattle.list_command.specs.declared.ends.End.TheVariants.{Listed, RefusedNoStore, RefusedDamaged}

-- 0 listed; 2 refused by content
abbrev pub status_of : End → ℕ
status_of Listed = 0
status_of e = 2

abbrev pub text_of : End → List ℕ
text_of Listed = []
text_of RefusedNoStore = codes "refused nostore"
text_of (RefusedDamaged p) = codes "refused damaged " ++ decimal p

-- the lines behind those of the journal: one that says why nothing is listed
abbrev pub end_lines : End → List (List ℕ)
end_lines Listed = []
end_lines e = line (text_of e) ∷ []
