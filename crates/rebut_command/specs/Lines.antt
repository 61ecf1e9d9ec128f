-- The lines of the command's answers (docs/FORMATS.md).
use Rattle.std.specs.Prelude.{ℕ, List, [], ◌∷◌, ◌++◌, codes}
use Rattle.std.specs.Fmt.{decimal}
use Rattle.command_parts.specs.Printing.{line}
use Rattle.hex.specs.Hex.{encode_with, lower_digits}
use Rattle.rebut_model.specs.Rebuts.{Answer, forged, collision}
use Rattle.rebut_command.specs.declared.refusal.Refusal.{Refusal}
use Rattle.rebut_command.specs.declared.refusal.Refusal.TheVariants as refusal

-- 2 refused by content; 3 the evidence's file refused
abbrev pub status_of : Refusal → ℕ
status_of refusal.File = 3
status_of r = 2

abbrev pub text_of : Refusal → List ℕ
text_of refusal.File = codes "refused file --evidence"
text_of refusal.Evidence = codes "refused evidence"
text_of refusal.NoStore = codes "refused nostore"
text_of (refusal.Damaged p) = codes "refused damaged " ++ decimal p
text_of refusal.Key = codes "refused key"
text_of (refusal.Journal n) = codes "refused journal " ++ decimal n
text_of refusal.Uncovered = codes "refused uncovered"

-- an authenticator that was never signed; or two texts of one hash in lower-case hexadecimal digits, the journal's first
abbrev pub answer_lines : Answer → List (List ℕ)
answer_lines (forged k) = line (codes "forged " ++ decimal k) ∷ []
answer_lines (collision a b) = line (codes "collision") ∷ line (encode_with lower_digits a) ∷ line (encode_with lower_digits b) ∷ []
