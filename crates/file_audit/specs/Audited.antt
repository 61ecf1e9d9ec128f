-- What an audit of a segment's file says.
use Rattle.std.specs.Prelude.{◌≡◌, ℕ, Bool, true, List, Option, None, Some, MatchBool}
use Rattle.std.specs.Option.{option_map}
use Rattle.std.specs.Borrow.{Bor}
use Rattle.avm_model.specs.Audit.{IsVerdict, IsAcceptance}
use Rattle.avm_model.specs.Head.{HeadData}
use Rattle.avm_model.specs.Segment.{SegmentData, whole_segment_of}
use Rattle.avm_model.specs.declared.judged.Verdict.{Verdict}
use Rattle.boot_image.specs.Begins.{BeginsAs}
use Rattle.command_parts.specs.Reading.{IsReadAs}
use Rattle.file_audit.specs.declared.hearing.Audited.{Audited}

abbrev pub bytes_view : Option (Bor (List ℕ)) → Option (List ℕ)
bytes_view bytes = option_map (λ (b : Bor (List ℕ)). b.now) bytes

-- the verdict on a segment and authenticators, which is acceptance exactly by the conjunction
abbrev pub IsJudged : List ℕ → List ℕ → List ℕ → Verdict → Type 0
IsJudged key segment auths v = IsVerdict key segment auths v × IsAcceptance key segment auths v

-- whether the segment begins with the boot of the image; without an image nothing is asked
abbrev pub Begins : Option (List ℕ) → Option (SegmentData × HeadData) → Bool → Type 0
Begins None segment is = is ≡ true
Begins (Some image) segment is = MatchBool is (BeginsAs image segment) (BeginsAs image segment → ⊥)

-- what is said of a segment's bytes
pub record IsAudited (key auths : List ℕ) (image : Option (List ℕ)) (keep : Bool) (bytes : List ℕ) (a : Audited) : Type 0 where
  pub judged : IsJudged key bytes auths a.verdict
  pub begins : Begins image (whole_segment_of bytes) a.begins
  pub kept : keep ≡ true → a.kept.items ≡ bytes

-- what is said of a segment's file: nothing where it isn't there
abbrev pub IsFileAudited : List ℕ → List ℕ → Option (List ℕ) → Bool → Option (Option (List ℕ)) → Option Audited → Type 0
IsFileAudited key auths image keep told None = IsReadAs whole_segment_of told None
IsFileAudited key auths image keep told (Some a) = (bytes : List ℕ) × IsReadAs whole_segment_of told (Some bytes) × IsAudited key auths image keep bytes a
