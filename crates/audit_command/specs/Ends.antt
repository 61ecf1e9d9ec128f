-- How an audit or a check ends: its line and its status.
use Rattle.std.specs.Prelude.{ℕ, List, ◌++◌, codes}
use Rattle.std.specs.Fmt.{decimal}
use Rattle.avm_model.specs.declared.judged.Verdict.{Verdict}
use Rattle.avm_model.specs.declared.judged.Verdict.TheVariants as verdict
use Rattle.audit_command.specs.declared.ends.FileOption.{FileOption}
use Rattle.audit_command.specs.declared.ends.FileOption.TheVariants.{Segment, Image, Key, Auths, Evidence}
use Rattle.audit_command.specs.declared.ends.End.{End}
use Rattle.audit_command.specs.declared.ends.End.TheVariants.{RefusedFile, Judged, RefusedImage, EvidenceStands, RefusedEvidence}

-- 0 accepted; 1 a fault that evidence shows; 2 refused
abbrev pub status_of_verdict : Verdict → ℕ
status_of_verdict (verdict.Accepted first last cover) = 0
status_of_verdict (verdict.Double i j) = 1
status_of_verdict (verdict.Fork i j) = 1
status_of_verdict (verdict.Replay n) = 1
status_of_verdict v = 2

-- 0 done, accepted or stands; 1 fault found; 2 refused by content; 3 an input file refused
abbrev pub status_of : End → ℕ
status_of (RefusedFile option) = 3
status_of (Judged v) = status_of_verdict v
status_of RefusedImage = 2
status_of EvidenceStands = 0
status_of RefusedEvidence = 2

abbrev pub option_text : FileOption → List ℕ
option_text Segment = codes "--segment"
option_text Image = codes "--image"
option_text Key = codes "--key"
option_text Auths = codes "--auths"
option_text Evidence = codes "--evidence"

abbrev pub text_of_verdict : Verdict → List ℕ
text_of_verdict verdict.Malformed = codes "refused malformed"
text_of_verdict (verdict.BadAuth k) = codes "refused badauth " ++ decimal k
text_of_verdict (verdict.Double i j) = codes "fault double " ++ (decimal i ++ (codes " " ++ decimal j))
text_of_verdict verdict.Uncommitted = codes "refused uncommitted"
text_of_verdict (verdict.Fork i j) = codes "fault fork " ++ (decimal i ++ (codes " " ++ decimal j))
text_of_verdict (verdict.Replay n) = codes "fault replay " ++ decimal n
text_of_verdict (verdict.Uncovered n) = codes "refused uncovered " ++ decimal n
text_of_verdict (verdict.Unmatched k) = codes "refused unmatched " ++ decimal k
text_of_verdict (verdict.Accepted first last cover) = codes "accepted " ++ (decimal first ++ (codes " to " ++ (decimal last ++ (codes " covered " ++ decimal cover))))

abbrev pub text_of : End → List ℕ
text_of (RefusedFile option) = codes "refused file " ++ option_text option
text_of (Judged v) = text_of_verdict v
text_of RefusedImage = codes "refused image"
text_of EvidenceStands = codes "evidence stands"
text_of RefusedEvidence = codes "refused evidence"
