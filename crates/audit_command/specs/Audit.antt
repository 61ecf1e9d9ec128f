-- The command that judges a segment.
use Rattle.std.specs.Prelude.{◌≡◌, ◌≢◌, ◌⊎◌, ℕ, List, [], ◌∷◌, Option, None, Some, Bool, true, false, replicate, if◌then◌else◌}
use Rattle.avm_model.specs.Basics.{or_else}
use Rattle.avm_model.specs.Keys.{public_file}
use Rattle.avm_script.specs.Job.{SignedData}
use Rattle.avm_model.specs.Audit.{Judged, judged_of}
use Rattle.avm_model.specs.Head.{HeadData}
use Rattle.avm_model.specs.Segment.{SegmentData, whole_segment_of}
use Rattle.avm_model.specs.Evidence.{EvidData, evidence_bytes}
use Rattle.avm_model.specs.Holds.{evidence, has_evidence, Stands}
use Rattle.avm_model.specs.declared.judged.Verdict.{Verdict}
use Rattle.avm_model.specs.declared.judged.Verdict.TheVariants.{Accepted}
use Rattle.boot_image.specs.Begins.{BeginsAs}
use Rattle.evid_file.specs.Pieces.{Written, LeavesFront}
use Rattle.file_audit.specs.Audited.{IsJudged}
use Rattle.audit_command.specs.declared.ends.FileOption.{FileOption}
use Rattle.audit_command.specs.declared.ends.FileOption.TheVariants.{Segment, Key, Auths}
use Rattle.audit_command.specs.declared.ends.End.{End}
use Rattle.audit_command.specs.declared.ends.End.TheVariants as end
use Rattle.command_parts.specs.FileMap.{FileMap, SameFiles}
use Rattle.command_parts.specs.Reading.{Finds, bytes_of}
use Rattle.audit_command.specs.Subject.{FoundSubject, IsSubjectFound, refused_image, refused_segment, refused_subject, image_of}

-- ---- the end of a verdict

-- an accepted segment begins as the image does, or it is refused
abbrev pub ImageEnd : List ℕ → Option (SegmentData × HeadData) → Verdict → End → Type 0
ImageEnd image segment v e = ((e ≡ end.Judged v) × BeginsAs image segment) ⊎ ((e ≡ end.RefusedImage) × (BeginsAs image segment → ⊥))

-- an image counts only where the segment is accepted without it
abbrev pub VerdictEnd : Option (List ℕ) → Option (SegmentData × HeadData) → Verdict → End → Type 0
VerdictEnd None segment v e = e ≡ end.Judged v
VerdictEnd (Some image) segment (Accepted first last cover) e = ImageEnd image segment (Accepted first last cover) e
VerdictEnd (Some image) segment v e = e ≡ end.Judged v

-- the end by a verdict and by whether the segment begins as the image does
abbrev pub end_by : Verdict → Bool → End
end_by (Accepted first last cover) false = end.RefusedImage
end_by v begins = end.Judged v

-- ---- without authenticators

-- a key that judges nothing
abbrev pub no_key : List ℕ
no_key = replicate 56 0

abbrev pub PlainJudged : List ℕ → Option (List ℕ) → End → Type 0
PlainJudged segment image e = (v : Verdict) × IsJudged no_key segment [] v × VerdictEnd image (whole_segment_of segment) v e

abbrev pub PlainEnd : FoundSubject → Option FileOption → End → Type 0
PlainEnd f (Some option) e = e ≡ end.RefusedFile option
PlainEnd f None e = PlainJudged (bytes_of f.segment) (image_of f) e

-- the end by the files of segment and image
abbrev pub PlainEnds : List ℕ → Option (List ℕ) → FileMap → End → Type 0
PlainEnds segment image old e = (f : FoundSubject) × IsSubjectFound segment image old f × PlainEnd f (refused_subject f) e

-- ---- with a key, authenticators and a name for evidence

-- the files as they are found
pub record Found : Type 0 where
  pub subject : FoundSubject
  pub key : Option (List ℕ)
  pub auths : Option (List ℕ)

abbrev pub refused_signed : Option (List ℕ) → Option (List ℕ) → Option FileOption
refused_signed None auths = Some Key
refused_signed (Some k) None = if public_file k then Some Auths else Some Key
refused_signed (Some k) (Some a) = if public_file k then None else Some Key

-- the first that is refused of the files that are read before the segment's
abbrev pub refused_inputs : Option (Option (List ℕ)) → Option (List ℕ) → Option (List ℕ) → Option FileOption
refused_inputs image key auths = or_else (refused_image image) (refused_signed key auths)

-- the first input file that is refused, in the order in which they are read
abbrev pub refused_input : Found → Option FileOption
refused_input f = or_else (refused_inputs f.subject.image f.key f.auths) (refused_segment f.subject.segment)

-- the evidence for a verdict, where there is some
abbrev pub evidence_for : List ℕ → Option Judged → Verdict → Option EvidData
evidence_for key None v = None
evidence_for key (Some d) v = evidence key d v

-- the evidence file holds the evidence, which stands under the key; a verdict without evidence leaves it as it was
abbrev pub LeavesEvidence : List ℕ → Verdict → Option EvidData → Option (Option (List ℕ)) → Option (Option (List ℕ)) → Type 0
LeavesEvidence key v None old new = (has_evidence v ≡ false) × (new ≡ old)
LeavesEvidence key v (Some e) old new = (has_evidence v ≡ true) × Written (evidence_bytes e) old new × Stands key (evidence_bytes e)

abbrev pub JudgedEnd : List ℕ → List ℕ → List ℕ → Option (List ℕ) → Option (Option (List ℕ)) → Option (Option (List ℕ)) → End → Type 0
JudgedEnd key segment auths image old new e =
    (v : Verdict) × IsJudged key segment auths v × VerdictEnd image (whole_segment_of segment) v e × LeavesEvidence key v (evidence_for key (judged_of segment auths) v) old new

abbrev pub SignedEnd : Found → Option FileOption → Option (Option (List ℕ)) → Option (Option (List ℕ)) → End → Type 0
SignedEnd f (Some option) old new e = (e ≡ end.RefusedFile option) × (new ≡ old)
SignedEnd f None old new e = JudgedEnd (bytes_of f.key) (bytes_of f.subject.segment) (bytes_of f.auths) (image_of f.subject) old new e

abbrev pub AreFound : List ℕ → Option (List ℕ) → SignedData → FileMap → Found → Type 0
AreFound segment image names old f = IsSubjectFound segment image old f.subject × Finds (old names.key) f.key × Finds (old names.auths) f.auths

-- the end by the files of segment, image, key and authenticators, and what stands under the evidence's name
abbrev pub SignedEnds : List ℕ → Option (List ℕ) → SignedData → FileMap → FileMap → End → Type 0
SignedEnds segment image names old new e =
    (f : Found) × AreFound segment image names old f × SignedEnd f (refused_input f) (old names.evidence) (new names.evidence) e

-- the end behind the inputs, by the segment that is found
abbrev pub TailEnd : List ℕ → List ℕ → Option (List ℕ) → Option (List ℕ) → Option (Option (List ℕ)) → Option (Option (List ℕ)) → End → Type 0
TailEnd key auths image None old new e = (e ≡ end.RefusedFile Segment) × (new ≡ old)
TailEnd key auths image (Some segment) old new e = JudgedEnd key segment auths image old new e

abbrev pub TailEnds : List ℕ → List ℕ → Option (List ℕ) → Option (Option (List ℕ)) → Option (Option (List ℕ)) → Option (Option (List ℕ)) → End → Type 0
TailEnds key auths image told old new e = (found : Option (List ℕ)) × Finds told found × TailEnd key auths image found old new e

-- the evidence file holds a front of the evidence
abbrev pub JudgedCut : List ℕ → List ℕ → List ℕ → Option (Option (List ℕ)) → Option (Option (List ℕ)) → Type 0
JudgedCut key segment auths old new =
    (v : Verdict) × (e : EvidData) × IsJudged key segment auths v × (evidence_for key (judged_of segment auths) v ≡ Some e) × LeavesFront (evidence_bytes e) old new

-- a call failed behind the inputs: the evidence file is as it was, or it holds a front of the evidence
abbrev pub TailCut : List ℕ → List ℕ → Option (Option (List ℕ)) → Option (Option (List ℕ)) → Option (Option (List ℕ)) → Type 0
TailCut key auths told old new = (new ≡ old) ⊎ ((segment : List ℕ) × Finds told (Some segment) × JudgedCut key segment auths old new)

-- a call failed: the evidence file is as it was, or it holds a front of the evidence
abbrev pub EvidenceCut : List ℕ → Option (List ℕ) → SignedData → FileMap → FileMap → Type 0
EvidenceCut segment image names old new =
    (new names.evidence ≡ old names.evidence)
    ⊎ ((f : Found) × AreFound segment image names old f × (refused_input f ≡ None)
    × JudgedCut (bytes_of f.key) (bytes_of f.subject.segment) (bytes_of f.auths) (old names.evidence) (new names.evidence))

-- ---- the command

-- the name is none of these
abbrev pub IsNoneOf : List (List ℕ) → List ℕ → Type 0
IsNoneOf [] name = Unit {0}
IsNoneOf (n ∷ names) name = (name ≢ n) × IsNoneOf names name

-- the names of the files that it may change
abbrev pub audit_writes : Option SignedData → List (List ℕ)
audit_writes None = []
audit_writes (Some names) = names.evidence ∷ []

abbrev pub AuditEnds : List ℕ → Option (List ℕ) → Option SignedData → FileMap → FileMap → End → Type 0
AuditEnds segment image None old new e = PlainEnds segment image old e
AuditEnds segment image (Some names) old new e = SignedEnds segment image names old new e

-- what a fault of the files leaves
abbrev pub AuditLeaves : List ℕ → Option (List ℕ) → Option SignedData → FileMap → FileMap → Type 0
AuditLeaves segment image None old new = SameFiles old new
AuditLeaves segment image (Some names) old new = EvidenceCut segment image names old new
