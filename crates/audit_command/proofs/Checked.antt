-- A check by what was read of its files.
use Rattle.std.proofs.Common.{◌≡◌, ℕ, Bool, true, if◌then◌else◌, List, Option, None, Some, inl, inr, refl, sym, ◌∙◌, subst}
use Rattle.std.specs.Prelude.{Result, Ok, Err, IfOk}
use Rattle.avm_model.specs.Keys.{public_file}
use Rattle.avm_model.specs.Evidence.{evidence_at}
use Rattle.avm_model.specs.Holds.{Stands}
use Rattle.audit_command.specs.declared.ends.End.{End}
use Rattle.audit_command.specs.declared.ends.End.TheVariants as end
use Rattle.audit_command.specs.declared.ends.FileOption.{FileOption}
use Rattle.audit_command.specs.declared.ends.FileOption.TheVariants.{Key, Evidence}
use Rattle.file_audit.specs.declared.fault.Fault.{Fault}
use Rattle.command_parts.specs.FileMap.{FileMap, SameFiles}
use Rattle.command_parts.specs.Reading.{Finds, ReadsAs, IsReadAs, bytes_of}
use Rattle.command_parts.specs.Tested.{IsTested, IsTestedRead}
use Rattle.audit_command.specs.Check.{StandsOrNot, CheckEnd, CheckEnds, refused_check}

found_of : (told : Option (Option (List ℕ))) → (found : Option (List ℕ)) × Finds told found
found_of None = (None, tt)
found_of (Some found) = (found, refl)

finds_before : (before now : Option (Option (List ℕ))) (found : Option (List ℕ)) → now ≡ before → Finds now found → Finds before found
finds_before before now found same finds = subst (λ (t : Option (Option (List ℕ))). Finds t found) same finds

no_key : (k bytes : Option (List ℕ)) → IsTested public_file k None → refused_check k bytes ≡ Some Key
no_key None bytes bad = refl
no_key (Some k) None bad = rw bad refl
no_key (Some k) (Some bytes) bad = rw bad refl

refused : (k bytes : Option (List ℕ)) (option : FileOption) → refused_check k bytes ≡ Some option → CheckEnd (bytes_of k) (bytes_of bytes) (refused_check k bytes) (end.RefusedFile option)
refused k bytes option is = subst (λ (o : Option FileOption). CheckEnd (bytes_of k) (bytes_of bytes) o (end.RefusedFile option)) (sym is) refl

pub check_no_key : (key evidence : List ℕ) (old : FileMap) → IsTestedRead public_file (old key) None → CheckEnds key evidence old (end.RefusedFile Key)
check_no_key key evidence old read =
    let bytes = found_of (old evidence) in
    (read.0, bytes.0, read.1, bytes.1, refused read.0 bytes.0 Key (no_key read.0 bytes.0 read.2))

no_evidence : (k bytes : Option (List ℕ)) (key : List ℕ) → IsTested public_file k (Some key) → ReadsAs evidence_at bytes None → refused_check k bytes ≡ Some Evidence
no_evidence k None key is read = let name : k ≡ Some key = is.0 in let good : public_file key ≡ true = is.1 in rw (name, good) refl
no_evidence k (Some bytes) key is read = absurd read

pub check_no_evidence : (key evidence : List ℕ) (old mid : FileMap) (k : List ℕ) → SameFiles old mid → IsTestedRead public_file (old key) (Some k) → IsReadAs evidence_at (mid evidence) None → CheckEnds key evidence old (end.RefusedFile Evidence)
check_no_evidence key evidence old mid k same read bytes =
    (read.0, bytes.0, read.1, finds_before (old evidence) (mid evidence) bytes.0 (same evidence) bytes.1, refused read.0 bytes.0 Evidence (no_evidence read.0 bytes.0 k read.2 bytes.2))

stands_same : (key s t : List ℕ) → evidence_at s ≡ evidence_at t → Stands key s → Stands key t
stands_same key s t same stands = record { «data» = stands.data; read = sym same ∙ stands.read; key_is = stands.key_is; holds = stands.holds }

told_same : (key s t : List ℕ) (e : End) → evidence_at s ≡ evidence_at t → StandsOrNot key s e → StandsOrNot key t e
told_same key s t e same told =
    elim told [
      | inl good ↦ inl (good.0, stands_same key s t same good.1)
      | inr bad ↦ inr (bad.0, λ stands. bad.1 (stands_same key t s (sym same) stands))
    ]

judged : (k bytes : Option (List ℕ)) (key got : List ℕ) (e : End) → IsTested public_file k (Some key) → ReadsAs evidence_at bytes (Some got) → StandsOrNot key got e → CheckEnd (bytes_of k) (bytes_of bytes) (refused_check k bytes) e
judged k None key got e is read told = absurd read
judged None (Some bytes) key got e is read told = let none : None ≡ Some key = is.0 in cc
judged (Some k) (Some bytes) key got e is read told =
    let name : Some k ≡ Some key = is.0 in
    let same : k ≡ key = cc in
    let good : public_file k ≡ true = rw same is.1 in
    let whole : StandsOrNot k bytes e = subst (λ (l : List ℕ). StandsOrNot l bytes e) (sym same) (told_same key got bytes e read told) in
    subst (λ (b : Bool). CheckEnd k bytes (if b then None else Some Key) e) (sym good) whole

-- the end by both files
pub check_told : (key evidence : List ℕ) (old mid : FileMap) (k got : List ℕ) (r : Result End Fault) → SameFiles old mid → IsTestedRead public_file (old key) (Some k) → IsReadAs evidence_at (mid evidence) (Some got) → IfOk r (StandsOrNot k got) → IfOk r (λ e. CheckEnds key evidence old e)
check_told key evidence old mid k got (Err f) same read bytes told = tt
check_told key evidence old mid k got (Ok e) same read bytes told =
    (read.0, bytes.0, read.1, finds_before (old evidence) (mid evidence) bytes.0 (same evidence) bytes.1, judged read.0 bytes.0 k got e read.2 bytes.2 told)
