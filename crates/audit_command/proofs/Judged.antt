-- What was read of files is judged as the files are.
use Rattle.std.proofs.Common.{◌≡◌, ℕ, Bool, true, false, List, [], Option, None, Some, option_map, inl, inr, refl, sym, ◌∙◌, ap, subst}
use Rattle.std.specs.Prelude.{Result, Ok, Err, IfOk}
use Rattle.avm_script.specs.Job.{SignedData}
use Rattle.avm_model.specs.Basics.{or_else}
use Rattle.avm_model.specs.Keys.{public_file}
use Rattle.avm_model.specs.Head.{HeadData}
use Rattle.avm_model.specs.Segment.{SegmentData, whole_segment_of}
use Rattle.avm_model.specs.Evidence.{evidence_bytes}
use Rattle.evid_file.specs.Pieces.{LeavesFront}
use Rattle.avm_model.specs.Audit.{Judged, auths_within, judged_of, IsVerdictOn}
use Rattle.avm_model.specs.declared.judged.Verdict.{Verdict}
use Rattle.avm_model.specs.declared.judged.Verdict.TheVariants as verdicts
use Rattle.command_parts.specs.FileMap.{FileMap, SameFiles}
use Rattle.command_parts.specs.Reading.{Finds, ReadsAs, IsReadAs, bytes_of}
use Rattle.command_parts.specs.Tested.{IsTested, IsTestedRead}
use Rattle.file_audit.specs.Audited.{Begins, IsFileAudited, IsJudged}
use Rattle.file_audit.specs.declared.hearing.Audited.{Audited}
use Rattle.file_audit.specs.declared.fault.Fault.{Fault}
use Rattle.audit_command.specs.declared.ends.End.{End}
use Rattle.audit_command.specs.declared.ends.End.TheVariants as end
use Rattle.audit_command.specs.declared.ends.FileOption.{FileOption}
use Rattle.audit_command.specs.declared.ends.FileOption.TheVariants.{Segment, Image, Key, Auths}
use Rattle.audit_command.specs.declared.said.Said.{Said}
use Rattle.audit_command.specs.declared.inputs.Beside.{Beside}
use Rattle.audit_command.specs.declared.inputs.Inputs.{Inputs}
use Rattle.audit_command.specs.ImageFile.{image_file}
use Rattle.audit_command.specs.Inputs.{AreRead, IsImageRead, FoundInputs, image_bytes}
use Rattle.audit_command.specs.Subject.{FoundSubject, image_of, refused_image, refused_segment}
use Rattle.audit_command.specs.Audit.{VerdictEnd, PlainJudged, PlainEnd, PlainEnds, JudgedEnd, JudgedCut, SignedEnd, SignedEnds, EvidenceCut, Found, refused_signed, refused_inputs, LeavesEvidence, TailEnd, TailEnds, TailCut, evidence_for, end_by, no_key}

judged_by : (s t a b : List ℕ) → whole_segment_of s ≡ whole_segment_of t → auths_within a ≡ auths_within b → judged_of s a ≡ judged_of t b
unfolding judged_of
judged_by s t a b segment auths = rw (segment, auths) refl

judged_same : (key s a t b : List ℕ) (v : Verdict) → judged_of s a ≡ judged_of t b → IsJudged key s a v → IsJudged key t b v
judged_same key s a t b v same judged = (
  subst (λ (o : Option Judged). IsVerdictOn key o v) same judged.0,
  record {
    only = λ first last cover is. let by = judged.1.only first last cover is in (by.0, sym same ∙ by.1, by.2);
    every = λ d is accepted. judged.1.every d (same ∙ is) accepted;
  },
)

-- ---- the end of a verdict

pub verdict_end : (image : Option (List ℕ)) (w : Option (SegmentData × HeadData)) (v : Verdict) (b : Bool) → Begins image w b → VerdictEnd image w v (end_by v b)
verdict_end None w verdicts.Malformed b begins = refl
verdict_end None w (verdicts.BadAuth k) b begins = refl
verdict_end None w (verdicts.Double i j) b begins = refl
verdict_end None w verdicts.Uncommitted b begins = refl
verdict_end None w (verdicts.Fork i j) b begins = refl
verdict_end None w (verdicts.Replay n) b begins = refl
verdict_end None w (verdicts.Uncovered n) b begins = refl
verdict_end None w (verdicts.Unmatched k) b begins = refl
verdict_end None w (verdicts.Accepted first last cover) true begins = refl
verdict_end None w (verdicts.Accepted first last cover) false begins = let no : false ≡ true = begins in cc
verdict_end (Some image) w verdicts.Malformed b begins = refl
verdict_end (Some image) w (verdicts.BadAuth k) b begins = refl
verdict_end (Some image) w (verdicts.Double i j) b begins = refl
verdict_end (Some image) w verdicts.Uncommitted b begins = refl
verdict_end (Some image) w (verdicts.Fork i j) b begins = refl
verdict_end (Some image) w (verdicts.Replay n) b begins = refl
verdict_end (Some image) w (verdicts.Uncovered n) b begins = refl
verdict_end (Some image) w (verdicts.Unmatched k) b begins = refl
verdict_end (Some image) w (verdicts.Accepted first last cover) true begins = inl (refl, begins)
verdict_end (Some image) w (verdicts.Accepted first last cover) false begins = inr (refl, begins)

-- ---- segment and image

there : {B : Type 0} (f : List ℕ → B) (found : Option (List ℕ)) (got : List ℕ) → ReadsAs f found (Some got) → (bytes : List ℕ) × (found ≡ Some bytes) × (f got ≡ f bytes)
there f None got read = absurd read
there f (Some bytes) got read = (bytes, refl, read)

missing : {B : Type 0} (f : List ℕ → B) (found : Option (List ℕ)) → ReadsAs f found None → found ≡ None
missing f None read = refl
missing f (Some bytes) read = absurd read

found_of : (told : Option (Option (List ℕ))) → (found : Option (List ℕ)) × Finds told found
found_of None = (None, tt)
found_of (Some found) = (found, refl)

finds_before : (before now : Option (Option (List ℕ))) (found : Option (List ℕ)) → now ≡ before → Finds now found → Finds before found
finds_before before now found same finds = subst (λ (t : Option (Option (List ℕ))). Finds t found) same finds

-- ---- without authenticators

-- the end of a judged segment, by the files that were read
pub plain_ends : (segment : List ℕ) (image : Option (List ℕ)) (old mid : FileMap) (b : Beside) (a : Audited) (e : End) → SameFiles old mid → IsImageRead image old (Ok b) → IsFileAudited no_key [] (image_bytes b) false (mid segment) (Some a) → e ≡ end_by a.verdict a.begins → PlainEnds segment image old e
plain_ends segment image old mid b a e same read heard is =
    let bytes = heard.0 in
    let file = there whole_segment_of heard.1.0 bytes heard.1.2 in
    let f : FoundSubject = record { segment = heard.1.0; image = read.0 } in
    let none : or_else (refused_image read.0) (refused_segment heard.1.0) ≡ None = rw (read.2.none, file.1) refl in
    let judged : IsJudged no_key file.0 [] a.verdict = judged_same no_key bytes [] file.0 [] a.verdict (judged_by bytes file.0 [] [] file.2 refl) heard.2.judged in
    let begins : Begins (image_of f) (whole_segment_of file.0) a.begins = rw (sym read.2.image, sym file.2) heard.2.begins in
    let ends : PlainJudged file.0 (image_of f) e = (a.verdict, judged, rw is (verdict_end (image_of f) (whole_segment_of file.0) a.verdict a.begins begins)) in
    let named : PlainJudged (bytes_of f.segment) (image_of f) e = subst (λ (s : Option (List ℕ)). PlainJudged (bytes_of s) (image_of f) e) (sym file.1) ends in
    (f, (finds_before (old segment) (mid segment) heard.1.0 (same segment) heard.1.1, read.1), subst (λ (o : Option FileOption). PlainEnd f o e) (sym none) named)

-- the segment isn't there
pub plain_missing : (segment : List ℕ) (image : Option (List ℕ)) (old mid : FileMap) (b : Beside) → SameFiles old mid → IsImageRead image old (Ok b) → IsFileAudited no_key [] (image_bytes b) false (mid segment) None → PlainEnds segment image old (end.RefusedFile Segment)
plain_missing segment image old mid b same read heard =
    let f : FoundSubject = record { segment = heard.0; image = read.0 } in
    let first : or_else (refused_image read.0) (refused_segment heard.0) ≡ Some Segment = rw (read.2.none, missing whole_segment_of heard.0 heard.2) refl in
    (f, (finds_before (old segment) (mid segment) heard.0 (same segment) heard.1, read.1), subst (λ (o : Option FileOption). PlainEnd f o (end.RefusedFile Segment)) (sym first) refl)

-- the image is refused
pub plain_refused : (segment : List ℕ) (image : Option (List ℕ)) (old : FileMap) (option : FileOption) → IsImageRead image old (Err option) → PlainEnds segment image old (end.RefusedFile option)
plain_refused segment image old option read =
    let s = found_of (old segment) in
    let f : FoundSubject = record { segment = s.0; image = read.0 } in
    let first : or_else (refused_image read.0) (refused_segment s.0) ≡ Some option = rw read.2 refl in
    (f, (s.1, read.1), subst (λ (o : Option FileOption). PlainEnd f o (end.RefusedFile option)) (sym first) refl)

-- ---- with a key

-- the end and the evidence of a verdict on the bytes that were kept
pub settled : (key s auths : List ℕ) (image : Option (List ℕ)) (v : Verdict) (b : Bool) (e : End) (old new : Option (Option (List ℕ))) → IsJudged key s auths v → e ≡ end_by v b → Begins image (whole_segment_of s) b → LeavesEvidence key v (evidence_for key (judged_of s auths) v) old new → JudgedEnd key s auths image old new e
settled key s auths image v b e old new judged is begins left = (v, judged, rw is (verdict_end image (whole_segment_of s) v b begins), left)

judged_end : (key s t auths : List ℕ) (i : Option (List ℕ)) (old mid new : Option (Option (List ℕ))) (e : End) → whole_segment_of s ≡ whole_segment_of t → mid ≡ old → JudgedEnd key s auths i mid new e → JudgedEnd key t auths i old new e
judged_end key s t auths i old mid new e segment files judged =
    let v = judged.0 in
    let same = judged_by s t auths auths segment refl in
    let whole : VerdictEnd i (whole_segment_of t) v e = subst (λ (w : Option (SegmentData × HeadData)). VerdictEnd i w v e) segment judged.2 in
    let leaves : LeavesEvidence key v (evidence_for key (judged_of t auths) v) mid new = subst (λ (o : Option Judged). LeavesEvidence key v (evidence_for key o v) mid new) same judged.3 in
    (v, judged_same key s auths t auths v same judged.1, whole, subst (λ (m : Option (Option (List ℕ))). LeavesEvidence key v (evidence_for key (judged_of t auths) v) m new) files leaves)

-- what was heard of a segment whose bytes are kept
pub record IsKept (key auths : List ℕ) (image : Option (List ℕ)) (told : Option (Option (List ℕ))) (a : Audited) (whole : List ℕ) : Type 0 where
  pub found : Finds told (Some whole)
  pub read : whole_segment_of a.kept.items ≡ whole_segment_of whole
  pub judged : IsJudged key a.kept.items auths a.verdict
  pub begins : Begins image (whole_segment_of a.kept.items) a.begins

pub kept_of : (key auths : List ℕ) (image : Option (List ℕ)) (told : Option (Option (List ℕ))) (a : Audited) → IsFileAudited key auths image true told (Some a) → (whole : List ℕ) × IsKept key auths image told a whole
kept_of key auths image told a heard =
    let bytes = heard.0 in
    let file = there whole_segment_of heard.1.0 bytes heard.1.2 in
    let kept : a.kept.items ≡ bytes = heard.2.kept refl in
    let found : Finds told (Some file.0) = subst (λ (o : Option (List ℕ)). Finds told o) file.1 heard.1.1 in (
      file.0,
      record {
        found = found;
        read = ap whole_segment_of kept ∙ file.2;
        judged = subst (λ (l : List ℕ). IsJudged key l auths a.verdict) (sym kept) heard.2.judged;
        begins = subst (λ (l : List ℕ). Begins image (whole_segment_of l) a.begins) (sym kept) heard.2.begins;
      },
    )

-- the end by the segment's file
pub tail_ends : (key auths : List ℕ) (image : Option (List ℕ)) (told old mid new : Option (Option (List ℕ))) (a : Audited) (r : Result Said Fault) → mid ≡ old → IsFileAudited key auths image true told (Some a)
    → ((i : Option (List ℕ)) → Begins i (whole_segment_of a.kept.items) a.begins → IfOk r (λ s. JudgedEnd key a.kept.items auths i mid new s.end)) → IfOk r (λ s. TailEnds key auths image told old new s.end)
tail_ends key auths image told old mid new a (Err f) same heard ends = tt
tail_ends key auths image told old mid new a (Ok s) same heard ends =
    let kept = kept_of key auths image told a heard in
    (Some kept.0, kept.1.found, judged_end key a.kept.items kept.0 auths image old mid new s.end kept.1.read same (ends image kept.1.begins))

pub tail_missing : (key auths : List ℕ) (image : Option (List ℕ)) (told old new : Option (Option (List ℕ))) (r : Result Said Fault) → new ≡ old → IsFileAudited key auths image true told None → IfOk r (λ s. s.end ≡ end.RefusedFile Segment) → IfOk r (λ s. TailEnds key auths image told old new s.end)
tail_missing key auths image told old new (Err f) same heard is = tt
tail_missing key auths image told old new (Ok s) same heard is =
    let none : heard.0 ≡ None = missing whole_segment_of heard.0 heard.2 in
    (None, subst (λ (o : Option (List ℕ)). Finds told o) none heard.1, (is, same))

-- what a fault leaves, by the segment's file
pub tail_cut : (key auths : List ℕ) (image : Option (List ℕ)) (told old mid new : Option (Option (List ℕ))) (a : Audited) → mid ≡ old → IsFileAudited key auths image true told (Some a) → JudgedCut key a.kept.items auths mid new → TailCut key auths told old new
tail_cut key auths image told old mid new a same heard cut =
    let kept = kept_of key auths image told a heard in
    let v = cut.0 in
    let e = cut.1 in
    let by = judged_by a.kept.items kept.0 auths auths kept.1.read refl in
    let whole : JudgedCut key kept.0 auths old new =
    (v, e, judged_same key a.kept.items auths kept.0 auths v by cut.2, subst (λ (o : Option Judged). evidence_for key o v ≡ Some e) by cut.3, subst (λ (m : Option (Option (List ℕ))). LeavesFront (evidence_bytes e) m new) same cut.4) in
    inr (kept.0, kept.1.found, whole)

-- ---- inputs and segment

abbrev found_with : FoundInputs → Option (List ℕ) → Found
found_with f s = record { subject = record { segment = s; image = f.image }; key = f.key; auths = f.auths }

auths_same : (key s a b : List ℕ) (i : Option (List ℕ)) (old new : Option (Option (List ℕ))) (e : End) → auths_within a ≡ auths_within b → JudgedEnd key s a i old new e → JudgedEnd key s b i old new e
auths_same key s a b i old new e auths judged =
    let v = judged.0 in
    let same = judged_by s s a b refl auths in
    (v, judged_same key s a s b v same judged.1, judged.2, subst (λ (o : Option Judged). LeavesEvidence key v (evidence_for key o v) old new) same judged.3)

tail_same : (key a b : List ℕ) (i j : Option (List ℕ)) (found : Option (List ℕ)) (old new : Option (Option (List ℕ))) (e : End) → auths_within a ≡ auths_within b → i ≡ j → TailEnd key a i found old new e → TailEnd key b j found old new e
tail_same key a b i j None old new e auths image tail = tail
tail_same key a b i j (Some s) old new e auths image tail = subst (λ (o : Option (List ℕ)). JudgedEnd key s b o old new e) image (auths_same key s a b i old new e auths tail)

signed_by : (f : FoundInputs) (found : Option (List ℕ)) (old new : Option (Option (List ℕ))) (e : End) → refused_inputs f.image f.key f.auths ≡ None → TailEnd (bytes_of f.key) (bytes_of f.auths) (option_map bytes_of f.image) found old new e → SignedEnd (found_with f found) (or_else (refused_inputs f.image f.key f.auths) (refused_segment found)) old new e
signed_by f None old new e none tail = subst (λ (o : Option FileOption). SignedEnd (found_with f None) (or_else o (Some Segment)) old new e) (sym none) tail
signed_by f (Some s) old new e none tail = subst (λ (o : Option FileOption). SignedEnd (found_with f (Some s)) (or_else o None) old new e) (sym none) tail

-- the end of an audit, by the files that were read
pub signed_ends : (segment : List ℕ) (image : Option (List ℕ)) (names : SignedData) (old mid new : FileMap) (i : Inputs) (r : Result Said Fault) → AreRead image names old (Ok i) → SameFiles old mid → IfOk r (λ s. TailEnds i.key i.auths.items (image_bytes i.beside) (mid segment) (mid names.evidence) (new names.evidence) s.end) → IfOk r (λ s. SignedEnds segment image names old new s.end)
signed_ends segment image names old mid new i (Err e) read same tail = tt
signed_ends segment image names old mid new i (Ok s) read same tail =
    let f = read.0 in
    let got = read.2 in
    let found = tail.0 in
    let keyed : TailEnd (bytes_of f.key) i.auths.items (image_bytes i.beside) found (mid names.evidence) (new names.evidence) s.end = subst (λ (k : List ℕ). TailEnd k i.auths.items (image_bytes i.beside) found (mid names.evidence) (new names.evidence) s.end) got.key tail.2 in
    let all : TailEnd (bytes_of f.key) (bytes_of f.auths) (option_map bytes_of f.image) found (mid names.evidence) (new names.evidence) s.end = tail_same (bytes_of f.key) i.auths.items (bytes_of f.auths) (image_bytes i.beside) (option_map bytes_of f.image) found (mid names.evidence) (new names.evidence) s.end got.auths got.image keyed in
    let first : TailEnd (bytes_of f.key) (bytes_of f.auths) (option_map bytes_of f.image) found (old names.evidence) (new names.evidence) s.end = subst (λ (m : Option (Option (List ℕ))). TailEnd (bytes_of f.key) (bytes_of f.auths) (option_map bytes_of f.image) found m (new names.evidence) s.end) (same names.evidence) all in
    (found_with f found, ((finds_before (old segment) (mid segment) found (same segment) tail.1, read.1.0), read.1.1, read.1.2), signed_by f found (old names.evidence) (new names.evidence) s.end got.none first)

cut_same : (key a b s : List ℕ) (old new : Option (Option (List ℕ))) → auths_within a ≡ auths_within b → JudgedCut key s a old new → JudgedCut key s b old new
cut_same key a b s old new auths cut =
    let v = cut.0 in
    let same = judged_by s s a b refl auths in
    (v, cut.1, judged_same key s a s b v same cut.2, subst (λ (o : Option Judged). evidence_for key o v ≡ Some cut.1) same cut.3, cut.4)

-- what a fault leaves, by the files that were read
pub signed_left : (segment : List ℕ) (image : Option (List ℕ)) (names : SignedData) (old mid new : FileMap) (i : Inputs) → AreRead image names old (Ok i) → SameFiles old mid → TailCut i.key i.auths.items (mid segment) (mid names.evidence) (new names.evidence) → EvidenceCut segment image names old new
signed_left segment image names old mid new i read same cut =
    let f = read.0 in
    let got = read.2 in
    elim cut [
      | inl as_was ↦ inl (as_was ∙ same names.evidence)
      | inr front ↦
          let s = front.0 in
          let keyed : JudgedCut (bytes_of f.key) s i.auths.items (mid names.evidence) (new names.evidence) = subst (λ (k : List ℕ). JudgedCut k s i.auths.items (mid names.evidence) (new names.evidence)) got.key front.2 in
          let all : JudgedCut (bytes_of f.key) s (bytes_of f.auths) (mid names.evidence) (new names.evidence) = cut_same (bytes_of f.key) i.auths.items (bytes_of f.auths) s (mid names.evidence) (new names.evidence) got.auths keyed in
          let first : JudgedCut (bytes_of f.key) s (bytes_of f.auths) (old names.evidence) (new names.evidence) = subst (λ (m : Option (Option (List ℕ))). JudgedCut (bytes_of f.key) s (bytes_of f.auths) m (new names.evidence)) (same names.evidence) all in
          let none : or_else (refused_inputs f.image f.key f.auths) (refused_segment (Some s)) ≡ None = rw got.none refl in
          inr (found_with f (Some s), ((finds_before (old segment) (mid segment) (Some s) (same segment) front.1, read.1.0), read.1.1, read.1.2), none, first)
    ]

-- an input that is refused
pub signed_refused : (segment : List ℕ) (image : Option (List ℕ)) (names : SignedData) (old new : FileMap) (option : FileOption) (r : Result Said Fault) → AreRead image names old (Err option) → SameFiles old new → IfOk r (λ s. s.end ≡ end.RefusedFile option) → IfOk r (λ s. SignedEnds segment image names old new s.end)
signed_refused segment image names old new option (Err e) read same is = tt
signed_refused segment image names old new option (Ok s) read same is =
    let f = read.0 in
    let seg = found_of (old segment) in
    let first : or_else (refused_inputs f.image f.key f.auths) (refused_segment seg.0) ≡ Some option = rw read.2 refl in
    (found_with f seg.0, ((seg.1, read.1.0), read.1.1, read.1.2), subst (λ (o : Option FileOption). SignedEnd (found_with f seg.0) o (old names.evidence) (new names.evidence) s.end) (sym first) (is, same names.evidence))

-- ---- reading the inputs

-- no image is named
pub read_alone : (image : Option (List ℕ)) (old : FileMap) (b : Beside) → image ≡ None → b.image ≡ None → IsImageRead image old (Ok b)
read_alone image old b unnamed none =
    let alone : IsImageRead None old (Ok b) = (None, refl, record { none = refl; image = rw none refl }) in
    subst (λ (i : Option (List ℕ)). IsImageRead i old (Ok b)) (sym unnamed) alone

bad_image : (found : Option (List ℕ)) → IsTested image_file found None → refused_image (Some found) ≡ Some Image
bad_image None bad = refl
bad_image (Some i) bad = rw bad refl

pub read_no_image : (image : Option (List ℕ)) (old : FileMap) (name : List ℕ) → image ≡ Some name → IsTestedRead image_file (old name) None → IsImageRead image old (Err Image)
read_no_image image old name named tested =
    let refused : IsImageRead (Some name) old (Err Image) = (Some tested.0, tested.1, bad_image tested.0 tested.2) in
    subst (λ (i : Option (List ℕ)). IsImageRead i old (Err Image)) (sym named) refused

pub read_image_there : (image : Option (List ℕ)) (old : FileMap) (name bytes : List ℕ) (b : Beside) → image ≡ Some name → image_bytes b ≡ Some bytes → IsTestedRead image_file (old name) (Some bytes) → IsImageRead image old (Ok b)
read_image_there image old name bytes b named has tested =
    let is : tested.0 ≡ Some bytes = tested.2.0 in
    let good : image_file bytes ≡ true = tested.2.1 in
    let whole : IsImageRead (Some name) old (Ok b) = (Some tested.0, tested.1, record { none = rw (is, good) refl; image = has ∙ rw is refl }) in
    subst (λ (i : Option (List ℕ)). IsImageRead i old (Ok b)) (sym named) whole

-- the image is refused
pub read_no_beside : (image : Option (List ℕ)) (names : SignedData) (old : FileMap) (option : FileOption) → IsImageRead image old (Err option) → AreRead image names old (Err option)
read_no_beside image names old option read =
    let key = found_of (old names.key) in
    let auths = found_of (old names.auths) in
    let f : FoundInputs = record { image = read.0; key = key.0; auths = auths.0 } in
    (f, (read.1, key.1, auths.1), ap (λ (o : Option FileOption). or_else o (refused_signed key.0 auths.0)) read.2)

no_key_named : (k a : Option (List ℕ)) → IsTested public_file k None → refused_signed k a ≡ Some Key
no_key_named None a bad = refl
no_key_named (Some k) None bad = rw bad refl
no_key_named (Some k) (Some a) bad = rw bad refl

pub read_no_key : (image : Option (List ℕ)) (names : SignedData) (old mid : FileMap) (b : Beside) → SameFiles old mid → IsImageRead image old (Ok b) → IsTestedRead public_file (mid names.key) None → AreRead image names old (Err Key)
read_no_key image names old mid b same read key =
    let auths = found_of (old names.auths) in
    let f : FoundInputs = record { image = read.0; key = key.0; auths = auths.0 } in
    (f, (read.1, finds_before (old names.key) (mid names.key) key.0 (same names.key) key.1, auths.1), ap (λ (o : Option FileOption). or_else o (refused_signed key.0 auths.0)) read.2.none ∙ no_key_named key.0 auths.0 key.2)

pub read_no_auths : (image : Option (List ℕ)) (names : SignedData) (old mid last : FileMap) (b : Beside) (k : List ℕ) → SameFiles old mid → SameFiles old last → IsImageRead image old (Ok b) → IsTestedRead public_file (mid names.key) (Some k) → IsReadAs auths_within (last names.auths) None → AreRead image names old (Err Auths)
read_no_auths image names old mid last b k same all read key auths =
    let f : FoundInputs = record { image = read.0; key = key.0; auths = auths.0 } in
    let is : key.0 ≡ Some k = key.2.0 in
    let good : public_file k ≡ true = key.2.1 in (
      f,
      (read.1, finds_before (old names.key) (mid names.key) key.0 (same names.key) key.1, finds_before (old names.auths) (last names.auths) auths.0 (all names.auths) auths.1),
      ap (λ (o : Option FileOption). or_else o (refused_signed key.0 auths.0)) read.2.none ∙ rw (is, missing auths_within auths.0 auths.2, good) refl,
    )

pub read_all : (image : Option (List ℕ)) (names : SignedData) (old mid last : FileMap) (i : Inputs) → SameFiles old mid → SameFiles old last → IsImageRead image old (Ok i.beside) → IsTestedRead public_file (mid names.key) (Some i.key) → IsReadAs auths_within (last names.auths) (Some i.auths.items) → AreRead image names old (Ok i)
read_all image names old mid last i same all read key auths =
    let list = there auths_within auths.0 i.auths.items auths.2 in
    let f : FoundInputs = record { image = read.0; key = key.0; auths = auths.0 } in
    let is : key.0 ≡ Some i.key = key.2.0 in
    let good : public_file i.key ≡ true = key.2.1 in (
      f,
      (read.1, finds_before (old names.key) (mid names.key) key.0 (same names.key) key.1, finds_before (old names.auths) (last names.auths) auths.0 (all names.auths) auths.1),
      record {
        none = ap (λ (o : Option FileOption). or_else o (refused_signed key.0 auths.0)) read.2.none ∙ rw (is, list.1, good) refl;
        image = read.2.image;
        key = rw is refl;
        auths = rw list.1 list.2;
      },
    )
