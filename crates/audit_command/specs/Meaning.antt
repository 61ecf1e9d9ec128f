-- What the statuses of an audit and of a check say.
use Rattle.std.specs.Prelude.{◌≡◌, ◌≢◌, ◌++◌, ℕ, List, [], Option, None, Some, true, option_map}
use Rattle.avm_model.specs.Keys.{public_file}
use Rattle.avm_script.specs.Job.{SignedData}
use Rattle.avm_model.specs.Audit.{judged_of, IsVerdict, IsAcceptedBytes}
use Rattle.avm_model.specs.Evidence.{EvidData, evidence_bytes}
use Rattle.avm_model.specs.Head.{HeadData}
use Rattle.avm_model.specs.Holds.{Stands, has_evidence}
use Rattle.avm_model.specs.Segment.{SegmentData, whole_segment_of}
use Rattle.avm_model.specs.declared.judged.Verdict.{Verdict}
use Rattle.boot_image.specs.Begins.{BeginsAs}
use Rattle.evid_file.specs.Pieces.{Written}
use Rattle.audit_command.specs.declared.ends.End.{End}
use Rattle.audit_command.specs.declared.ends.End.TheVariants.{RefusedImage}
use Rattle.audit_command.specs.Ends.{text_of}
use Rattle.command_parts.specs.Printing.{line}
use Rattle.command_parts.specs.FileMap.{FileMap}
use Rattle.audit_command.specs.ImageFile.{image_file}
use Rattle.command_parts.specs.Reading.{Finds}
use Rattle.audit_command.specs.Audit.{evidence_for, no_key}

-- the object tells the file
abbrev pub Tells : Option (Option (List ℕ)) → Option (List ℕ) → Type 0
Tells told found = told ≡ Some found

-- the bytes of an audit's files; of the image, None where none is named
pub record Given : Type 0 where
  pub segment : List ℕ
  pub image : Option (List ℕ)
  pub key : List ℕ
  pub auths : List ℕ

-- the image is the file's bytes, and has no fault that shows in them; without a name there is none
abbrev pub IsImageGiven : (Option (Option (List ℕ)) → Option (List ℕ) → Type 0) → Option (List ℕ) → FileMap → Option (List ℕ) → Type 0
IsImageGiven Is None old image = image ≡ None
IsImageGiven Is (Some name) old None = ⊥
IsImageGiven Is (Some name) old (Some image) = Is (old name) (Some image) × (image_file image ≡ true)

-- they are the files' bytes; without names of a key and authenticators there are none of these
abbrev pub AreGiven : (Option (Option (List ℕ)) → Option (List ℕ) → Type 0) → List ℕ → Option (List ℕ) → Option SignedData → FileMap → Given → Type 0
AreGiven Is segment image None old g =
    Is (old segment) (Some g.segment) × IsImageGiven Is image old g.image × (g.key ≡ no_key) × (g.auths ≡ [])
AreGiven Is segment image (Some names) old g =
    Is (old segment) (Some g.segment) × IsImageGiven Is image old g.image × Is (old names.key) (Some g.key) × (public_file g.key ≡ true) × Is (old names.auths) (Some g.auths)

-- the segment begins with the boot of the image, where there is one
abbrev pub BeginsAsGiven : Option (List ℕ) → Option (SegmentData × HeadData) → Type 0
BeginsAsGiven None segment = Unit {0}
BeginsAsGiven (Some image) segment = BeginsAs image segment

-- under the evidence's name is the evidence of a verdict that has some, and it holds under the key
pub record IsShown (key s a : List ℕ) (v : Verdict) (e : EvidData) (old new : Option (Option (List ℕ))) : Type 0 where
  pub verdict : IsVerdict key s a v
  pub fault : has_evidence v ≡ true
  pub evidence : evidence_for key (judged_of s a) v ≡ Some e
  pub written : Written (evidence_bytes e) old new
  pub stands : Stands key (evidence_bytes e)

abbrev pub EvidenceShown : List ℕ → Option (List ℕ) → Option SignedData → FileMap → FileMap → Type 0
EvidenceShown segment image None old new = ⊥
EvidenceShown segment image (Some names) old new =
    (g : Given) × (v : Verdict) × (e : EvidData)
    × AreGiven Finds segment image (Some names) old g × IsShown g.key g.segment g.auths v e (old names.evidence) (new names.evidence)

-- the end's line is printed behind what was
abbrev pub IsPrinted : End → Option (List ℕ) → Option (List ℕ) → Type 0
IsPrinted end before after = after ≡ option_map (λ was. was ++ line (text_of end)) before

-- An audit ends with 0 exactly where the segment chains from its snapshot, every authenticator verifies and matches, the
-- reference machine, fed the logged inputs at their counts, gives exactly the logged outputs, and, where an image is named,
-- the segment begins with BOOT and its snapshot is the image's initial state; but for a fault of the outside and want of
-- memory. Where the image alone doesn't fit, it ends with 2 and refuses the image. Where it ends with 1, the evidence that
-- is written holds.
pub record AuditMeans (segment : List ℕ) (image : Option (List ℕ)) (signed : Option SignedData) (old new : FileMap) (before after : Option (List ℕ)) (result : ℕ) : Type 0 where
  pub accepted : result ≡ 0 → (g : Given) × AreGiven Finds segment image signed old g × IsAcceptedBytes g.key g.segment g.auths × BeginsAsGiven g.image (whole_segment_of g.segment)
  pub accepts : (g : Given) → AreGiven Tells segment image signed old g → IsAcceptedBytes g.key g.segment g.auths → BeginsAsGiven g.image (whole_segment_of g.segment) → result ≢ 4 → result ≢ 5 → result ≡ 0
  pub refuses : (g : Given) → AreGiven Tells segment image signed old g → IsAcceptedBytes g.key g.segment g.auths → (BeginsAsGiven g.image (whole_segment_of g.segment) → ⊥) → result ≢ 4 → result ≢ 5 → (result ≡ 2) × IsPrinted RefusedImage before after
  pub fault : result ≡ 1 → EvidenceShown segment image signed old new

-- A check ends with 0 exactly where the bytes are evidence of the key and hold, but for a fault of the outside and want of
-- memory.
pub record CheckMeans (key evidence : List ℕ) (old : FileMap) (result : ℕ) : Type 0 where
  pub stands : result ≡ 0 → (k : List ℕ) × (bytes : List ℕ) × Finds (old key) (Some k) × Finds (old evidence) (Some bytes) × (public_file k ≡ true) × Stands k bytes
  pub accepts : (k bytes : List ℕ) → Tells (old key) (Some k) → Tells (old evidence) (Some bytes) → public_file k ≡ true → Stands k bytes → result ≢ 4 → result ≢ 5 → result ≡ 0

-- A later check of the audit's key and evidence ends with 0, but for a fault of the outside and want of memory, where both files
-- were told.
abbrev pub IsAcceptedLater : SignedData → FileMap → FileMap → Type 0
IsAcceptedLater names old new =
    (key evidence : Option (List ℕ)) (later : ℕ) → Tells (old names.key) key → Tells (old names.evidence) evidence → CheckMeans names.key names.evidence new later → later ≢ 4 → later ≢ 5 → later ≡ 0
