-- What the statuses of an audit and of a check say.
use Rattle.std.proofs.Common.{◌≡◌, ◌≢◌, ◌++◌, ℕ, Bool, true, false, if◌then◌else◌, List, [], ◌∷◌, Option, None, Some, option_map, ◌⊎◌, inl, inr, append-nil, refl, sym, ◌∙◌, ap, subst, arith}
use Rattle.std.specs.List.{concat}
use Rattle.avm_num.specs.Bytes.{◌>>=◌}
use Rattle.avm_num.specs.Walk.{items_of, behind_of}
use Rattle.avm_model.specs.Basics.{or_else}
use Rattle.avm_model.specs.Keys.{public_file}
use Rattle.avm_script.specs.Job.{SignedData}
use Rattle.avm_model.specs.Segment.{SegmentData, whole_segment_of}
use Rattle.avm_model.specs.Head.{HeadData}
use Rattle.avm_model.specs.Verdict.{Case, verdict, marks}
use Rattle.avm_model.specs.Audit.{Judged, auths_within, judged_of, case_of, IsVerdict, IsVerdictOn, IsAcceptedBytes, accepted_as}
use Rattle.avm_model.specs.Evidence.{EvidData}
use Rattle.avm_model.specs.Holds.{Stands, has_evidence}
use Rattle.avm_model.specs.declared.judged.Verdict.{Verdict}
use Rattle.avm_model.specs.declared.judged.Verdict.TheVariants as verdicts
use Rattle.audit_command.specs.declared.ends.End.{End}
use Rattle.audit_command.specs.declared.ends.End.TheVariants as end
use Rattle.audit_command.specs.declared.ends.FileOption.{FileOption}
use Rattle.audit_command.specs.declared.ends.FileOption.TheVariants.{Segment, Image, Key, Auths, Evidence}
use Rattle.audit_command.specs.Ends.{status_of, status_of_verdict, text_of}
use Rattle.command_parts.specs.Printing.{line}
use Rattle.command_parts.specs.FileMap.{FileMap, SameFiles}
use Rattle.audit_command.specs.ImageFile.{image_file}
use Rattle.command_parts.specs.Reading.{Finds, bytes_of}
use Rattle.audit_command.specs.Subject.{FoundSubject, FindsNamed, IsSubjectFound, image_of, refused_image, refused_segment, refused_subject}
use Rattle.audit_command.specs.Audit.{VerdictEnd, PlainJudged, PlainEnd, PlainEnds, Found, AreFound, SignedEnd, SignedEnds, JudgedEnd, LeavesEvidence, AuditEnds, AuditLeaves, refused_signed, refused_inputs, refused_input, evidence_for, no_key}
use Rattle.file_audit.specs.Audited.{IsJudged}
use Rattle.audit_command.specs.Check.{StandsOrNot, CheckEnd, CheckEnds, refused_check}
use Rattle.audit_command.specs.Outcomes.{Ended, NoMemory, FaultFiles, EndsBy, AuditRuns, CheckRuns}
use Rattle.audit_command.specs.Meaning.{Tells, Given, IsImageGiven, AreGiven, BeginsAsGiven, IsShown, IsPrinted, EvidenceShown, AuditMeans, CheckMeans}

-- ---- from the outcome to the end

-- an end with its status and its line
abbrev IsEnded : (End → Type 0) → Option (List ℕ) → Option (List ℕ) → ℕ → Type 0
IsEnded Ends before after n = (e : End) × Ends e × (status_of e ≡ n) × IsPrinted e before after

one_line : (text : List ℕ) (before after : Option (List ℕ)) → after ≡ option_map (λ was. was ++ concat (line text ∷ [])) before → after ≡ option_map (λ was. was ++ line text) before
one_line text before after is = is ∙ ap (λ (l : List ℕ). option_map (λ (was : List ℕ). was ++ l) before) (append-nil (line text))

ended : (Ends : End → Type 0) (Leaves Same : Type 0) (f g b n : ℕ) (before after : Option (List ℕ)) (result : ℕ) → EndsBy Ends Leaves Same f g b n before after result → (k : ℕ) → result ≡ k → k ≢ 4 → k ≢ 5 → IsEnded Ends before after k
ended Ends Leaves Same f g b n before after result (o, reaches, inr cut) k is not4 not5 = absurd (not4 (sym is ∙ cut.0))
ended Ends Leaves Same f g b n before after result (Ended e, reaches, inl whole) k is not4 not5 = (e, reaches.0, sym whole.0 ∙ is, one_line (text_of e) before after whole.1.1)
ended Ends Leaves Same f g b n before after result (NoMemory, reaches, inl whole) k is not4 not5 = absurd (not5 (sym is ∙ whole.0))
ended Ends Leaves Same f g b n before after result (FaultFiles, reaches, inl whole) k is not4 not5 = absurd (not4 (sym is ∙ whole.0))

-- ---- verdicts by their statuses

zero_verdict : (v : Verdict) → status_of_verdict v ≡ 0 → (first : ℕ) × (last : ℕ) × (cover : ℕ) × (v ≡ verdicts.Accepted first last cover)
zero_verdict verdicts.Malformed zero = absurd (omega (arith, zero))
zero_verdict (verdicts.BadAuth k) zero = absurd (omega (arith, zero))
zero_verdict (verdicts.Double i j) zero = absurd (omega (arith, zero))
zero_verdict verdicts.Uncommitted zero = absurd (omega (arith, zero))
zero_verdict (verdicts.Fork i j) zero = absurd (omega (arith, zero))
zero_verdict (verdicts.Replay n) zero = absurd (omega (arith, zero))
zero_verdict (verdicts.Uncovered n) zero = absurd (omega (arith, zero))
zero_verdict (verdicts.Unmatched k) zero = absurd (omega (arith, zero))
zero_verdict (verdicts.Accepted first last cover) zero = (first, last, cover, refl)

one_verdict : (v : Verdict) → status_of_verdict v ≡ 1 → has_evidence v ≡ true
one_verdict verdicts.Malformed one = absurd (omega (arith, one))
one_verdict (verdicts.BadAuth k) one = absurd (omega (arith, one))
one_verdict (verdicts.Double i j) one = refl
one_verdict verdicts.Uncommitted one = absurd (omega (arith, one))
one_verdict (verdicts.Fork i j) one = refl
one_verdict (verdicts.Replay n) one = refl
one_verdict (verdicts.Uncovered n) one = absurd (omega (arith, one))
one_verdict (verdicts.Unmatched k) one = absurd (omega (arith, one))
one_verdict (verdicts.Accepted first last cover) one = absurd (omega (arith, one))

-- without authenticators no verdict has evidence
alone : (c : Case) (committed : Bool) (fault : Option ℕ) → c.committed ≡ committed → c.fault ≡ fault → c.auths ≡ [] → has_evidence (verdict c) ≡ false
unfolding verdict marks
alone c true None is at none = rw (is, at, none) refl
alone c true (Some n) is at none = rw (is, at, none) refl
alone c false None is at none = rw (is, at, none) refl
alone c false (Some n) is at none = rw (is, at, none) refl

no_auths : auths_within [] ≡ Some []
unfolding auths_within items_of behind_of
no_auths = refl

no_auths_read : (o : Option (SegmentData × HeadData)) (d : Judged) → (o >>= λ s. Some (record { segment = s.0; head = s.1; auths = [] })) ≡ Some d → d.auths ≡ []
no_auths_read None d is = let none : ◌≡◌ {A = Option Judged} None (Some d) = is in cc
no_auths_read (Some s) d is = let same : ◌≡◌ {A = Option Judged} (Some (record { segment = s.0; head = s.1; auths = [] })) (Some d) = is in let one : ◌≡◌ {A = Judged} (record { segment = s.0; head = s.1; auths = [] }) d = cc in sym (ap (λ (j : Judged). j.auths) one)

judged_alone : (s : List ℕ) (d : Judged) → judged_of s [] ≡ Some d → d.auths ≡ []
unfolding judged_of
judged_alone s d is = no_auths_read (whole_segment_of s) d (rw no_auths at is)

alone_on : (s : List ℕ) (o : Option Judged) (v : Verdict) → judged_of s [] ≡ o → IsVerdictOn no_key o v → has_evidence v ≡ false
unfolding case_of
alone_on s None v is judged = ap has_evidence judged
alone_on s (Some d) v is judged =
    let c : Case = case_of no_key d judged.0 in
    ap has_evidence judged.2 ∙ alone c c.committed c.fault refl refl (judged_alone s d is)

-- ---- the end of a verdict

-- the verdict's own end, with which the image fits where it is accepted, or an accepted segment that the image doesn't fit
abbrev EndCases : Option (List ℕ) → Option (SegmentData × HeadData) → Verdict → End → Type 0
EndCases image w v e =
    ((e ≡ end.Judged v) × (status_of_verdict v ≡ 0 → BeginsAsGiven image w)) ⊎ ((e ≡ end.RefusedImage) × (BeginsAsGiven image w → ⊥))

end_cases : (image : Option (List ℕ)) (w : Option (SegmentData × HeadData)) (v : Verdict) (e : End) → VerdictEnd image w v e → EndCases image w v e
end_cases None w v e ends = inl (ends, λ zero. tt)
end_cases (Some image) w verdicts.Malformed e ends = inl (ends, λ zero. absurd (omega (arith, zero)))
end_cases (Some image) w (verdicts.BadAuth k) e ends = inl (ends, λ zero. absurd (omega (arith, zero)))
end_cases (Some image) w (verdicts.Double i j) e ends = inl (ends, λ zero. absurd (omega (arith, zero)))
end_cases (Some image) w verdicts.Uncommitted e ends = inl (ends, λ zero. absurd (omega (arith, zero)))
end_cases (Some image) w (verdicts.Fork i j) e ends = inl (ends, λ zero. absurd (omega (arith, zero)))
end_cases (Some image) w (verdicts.Replay n) e ends = inl (ends, λ zero. absurd (omega (arith, zero)))
end_cases (Some image) w (verdicts.Uncovered n) e ends = inl (ends, λ zero. absurd (omega (arith, zero)))
end_cases (Some image) w (verdicts.Unmatched k) e ends = inl (ends, λ zero. absurd (omega (arith, zero)))
end_cases (Some image) w (verdicts.Accepted first last cover) e ends =
    elim ends [ inl fits ↦ inl (fits.0, λ zero. fits.1) | inr other ↦ inr (other.0, other.1) ]

verdict_zero : (key s a : List ℕ) (image : Option (List ℕ)) (v : Verdict) (e : End) → IsJudged key s a v → VerdictEnd image (whole_segment_of s) v e → status_of e ≡ 0 → IsAcceptedBytes key s a × BeginsAsGiven image (whole_segment_of s)
verdict_zero key s a image v e judged ends zero =
    elim (end_cases image (whole_segment_of s) v e ends) [
      | inl own ↦
          let status : status_of e ≡ status_of_verdict v = ap status_of own.0 in
          let row = zero_verdict v (sym status ∙ zero) in
          (judged.1.only row.0 row.1 row.2 row.3, own.1 (sym status ∙ zero))
      | inr other ↦ let two : status_of e ≡ 2 = ap status_of other.0 in absurd (omega (arith, two, zero))
    ]

verdict_one : (image : Option (List ℕ)) (w : Option (SegmentData × HeadData)) (v : Verdict) (e : End) → VerdictEnd image w v e → status_of e ≡ 1 → has_evidence v ≡ true
verdict_one image w v e ends one =
    elim (end_cases image w v e ends) [
      | inl own ↦ let status : status_of e ≡ status_of_verdict v = ap status_of own.0 in one_verdict v (sym status ∙ one)
      | inr other ↦ let two : status_of e ≡ 2 = ap status_of other.0 in absurd (omega (arith, two, one))
    ]

accepted_zero : (key s a : List ℕ) (v : Verdict) → IsJudged key s a v → IsAcceptedBytes key s a → status_of_verdict v ≡ 0
accepted_zero key s a v judged accepted =
    let row : v ≡ accepted_as accepted.0 = judged.1.every accepted.0 accepted.1 accepted.2 in
    ap status_of_verdict row

verdict_accepts : (key s a : List ℕ) (image : Option (List ℕ)) (v : Verdict) (e : End) → IsJudged key s a v → VerdictEnd image (whole_segment_of s) v e → IsAcceptedBytes key s a → BeginsAsGiven image (whole_segment_of s) → status_of e ≡ 0
verdict_accepts key s a image v e judged ends accepted begins =
    elim (end_cases image (whole_segment_of s) v e ends) [
      | inl own ↦ ap status_of own.0 ∙ accepted_zero key s a v judged accepted
      | inr other ↦ absurd (other.1 begins)
    ]

verdict_refuses : (key s a : List ℕ) (image : Option (List ℕ)) (v : Verdict) (e : End) → IsJudged key s a v → VerdictEnd image (whole_segment_of s) v e → IsAcceptedBytes key s a → (BeginsAsGiven image (whole_segment_of s) → ⊥) → e ≡ end.RefusedImage
verdict_refuses key s a image v e judged ends accepted not =
    elim (end_cases image (whole_segment_of s) v e ends) [
      | inl own ↦ absurd (not (own.1 (accepted_zero key s a v judged accepted)))
      | inr other ↦ other.0
    ]

-- ---- segment and image

told_found : (told : Option (Option (List ℕ))) (s : List ℕ) (found : Option (List ℕ)) → Tells told (Some s) → Finds told found → found ≡ Some s
told_found told s found tells finds =
    let same : Some s ≡ found = subst (λ (t : Option (Option (List ℕ))). Finds t found) tells finds in
    sym same

-- the image that is found has no fault, or none is named
abbrev IsImageThere : Option (Option (List ℕ)) → Type 0
IsImageThere None = Unit {0}
IsImageThere (Some None) = ⊥
IsImageThere (Some (Some image)) = image_file image ≡ true

only_true : (b : Bool) (r : Option FileOption) (option : FileOption) → (if b then r else Some option) ≡ None → b ≡ true
only_true true r option is = refl
only_true false r option is = cc

both_none : (first second : Option FileOption) → or_else first second ≡ None → (first ≡ None) × (second ≡ None)
both_none None second is = (refl, is)
both_none (Some option) second is = let none : ◌≡◌ {A = Option FileOption} (Some option) None = is in cc

segment_there : (s : Option (List ℕ)) → refused_segment s ≡ None → s ≡ Some (bytes_of s)
segment_there None is = let none : ◌≡◌ {A = Option FileOption} (Some Segment) None = is in cc
segment_there (Some s) is = refl

image_there : (image : Option (Option (List ℕ))) → refused_image image ≡ None → IsImageThere image
image_there None is = tt
image_there (Some None) is = let none : ◌≡◌ {A = Option FileOption} (Some Image) None = is in cc
image_there (Some (Some image)) is = only_true (image_file image) None Image is

subject_there : (s : Option (List ℕ)) (image : Option (Option (List ℕ))) → or_else (refused_image image) (refused_segment s) ≡ None → (s ≡ Some (bytes_of s)) × IsImageThere image
subject_there s image is = let none = both_none (refused_image image) (refused_segment s) is in (segment_there s none.1, image_there image none.0)

image_given : (image : Option (List ℕ)) (old : FileMap) (found : Option (Option (List ℕ))) → FindsNamed image old found → IsImageThere found → IsImageGiven Finds image old (option_map bytes_of found)
image_given None old found finds there = ap (option_map bytes_of) finds
image_given (Some name) old None finds there = absurd finds
image_given (Some name) old (Some None) finds there = absurd there
image_given (Some name) old (Some (Some image)) finds there = (finds, there)

-- the image that is given, as it is found
abbrev found_as : Option (List ℕ) → Option (Option (List ℕ))
found_as given = option_map (λ (bytes : List ℕ). Some bytes) given

told_image : (image : Option (List ℕ)) (old : FileMap) (found : Option (Option (List ℕ))) (given : Option (List ℕ)) → FindsNamed image old found → IsImageGiven Tells image old given → (found ≡ found_as given) × IsImageThere (found_as given)
told_image None old found given finds none = (finds ∙ sym (ap found_as none), subst (λ (o : Option (List ℕ)). IsImageThere (found_as o)) (sym none) tt)
told_image (Some name) old found None finds given = absurd given
told_image (Some name) old None (Some bytes) finds given = absurd finds
told_image (Some name) old (Some found) (Some bytes) finds given =
    (ap (λ (o : Option (List ℕ)). Some o) (told_found (old name) bytes found given.0 finds), given.1)

same_image : (given : Option (List ℕ)) → option_map bytes_of (found_as given) ≡ given
same_image None = refl
same_image (Some bytes) = refl

not_refused : (given : Option (List ℕ)) → IsImageThere (found_as given) → refused_image (found_as given) ≡ None
not_refused None there = refl
not_refused (Some bytes) there = rw there refl

-- what is told of segment and image
record IsToldSubject (f : FoundSubject) (s : List ℕ) (given : Option (List ℕ)) : Type 0 where
  segment : bytes_of f.segment ≡ s
  image : image_of f ≡ given
  no_image : refused_image f.image ≡ None
  no_segment : refused_segment f.segment ≡ None

told_subject : (segment : List ℕ) (image : Option (List ℕ)) (old : FileMap) (f : FoundSubject) (s : List ℕ) (given : Option (List ℕ)) → IsSubjectFound segment image old f → Tells (old segment) (Some s) → IsImageGiven Tells image old given → IsToldSubject f s given
told_subject segment image old f s given found told beside =
    let first : f.segment ≡ Some s = told_found (old segment) s f.segment told found.0 in
    let second = told_image image old f.image given found.1 beside in
    record {
      segment = ap bytes_of first;
      image = ap (option_map bytes_of) second.0 ∙ same_image given;
      no_image = ap refused_image second.0 ∙ not_refused given second.1;
      no_segment = ap refused_segment first;
    }

-- ---- an audit without authenticators

plain_judged : (f : FoundSubject) (r : Option FileOption) (e : End) → refused_subject f ≡ r → PlainEnd f r e → status_of e ≢ 3 → PlainJudged (bytes_of f.segment) (image_of f) e × (refused_subject f ≡ None)
plain_judged f None e is ends not3 = (ends, is)
plain_judged f (Some option) e is ends not3 = absurd (not3 (ap status_of ends))

abbrev IsAcceptedGiven : Given → Type 0
IsAcceptedGiven g = IsAcceptedBytes g.key g.segment g.auths × BeginsAsGiven g.image (whole_segment_of g.segment)

plain_zero : (segment : List ℕ) (image : Option (List ℕ)) (old : FileMap) (e : End) → PlainEnds segment image old e → status_of e ≡ 0 → (g : Given) × AreGiven Finds segment image None old g × IsAcceptedGiven g
plain_zero segment image old e ends zero =
    let f = ends.0 in
    let at = plain_judged f (refused_subject f) e refl ends.2 (λ three. omega (arith, three, zero)) in
    let there = subject_there f.segment f.image at.1 in (
      record { segment = bytes_of f.segment; image = image_of f; key = no_key; auths = [] },
      (subst (λ (o : Option (List ℕ)). Finds (old segment) o) there.0 ends.1.0, image_given image old f.image ends.1.1 there.1, refl, refl),
      verdict_zero no_key (bytes_of f.segment) [] (image_of f) at.0.0 e at.0.1 at.0.2 zero,
    )

plain_one : (segment : List ℕ) (image : Option (List ℕ)) (old : FileMap) (e : End) → PlainEnds segment image old e → status_of e ≡ 1 → ⊥
plain_one segment image old e ends one =
    let f = ends.0 in
    let at = plain_judged f (refused_subject f) e refl ends.2 (λ three. omega (arith, three, one)) in
    let s = bytes_of f.segment in
    let v = at.0.0 in
    let some : has_evidence v ≡ true = verdict_one (image_of f) (whole_segment_of s) v e at.0.2 one in
    let lone : has_evidence v ≡ false = alone_on s (judged_of s []) v refl at.0.1.0 in
    cc

-- the verdict on what is told
plain_told : (segment : List ℕ) (image : Option (List ℕ)) (old : FileMap) (e : End) (g : Given) → AreGiven Tells segment image None old g → PlainEnds segment image old e → (v : Verdict) × IsJudged g.key g.segment g.auths v × VerdictEnd g.image (whole_segment_of g.segment) v e
plain_told segment image old e g given ends =
    let f = ends.0 in
    let told = told_subject segment image old f g.segment g.image ends.1 given.0 given.1 in
    let none : refused_subject f ≡ None = rw (told.no_image, told.no_segment) refl in
    let judged : PlainJudged (bytes_of f.segment) (image_of f) e = subst (λ (o : Option FileOption). PlainEnd f o e) none ends.2 in
    let first : PlainJudged g.segment (image_of f) e = subst (λ (s : List ℕ). PlainJudged s (image_of f) e) told.segment judged in
    let both : PlainJudged g.segment g.image e = subst (λ (o : Option (List ℕ)). PlainJudged g.segment o e) told.image first in
    let keyed : IsJudged g.key g.segment [] both.0 = subst (λ (k : List ℕ). IsJudged k g.segment [] both.0) (sym given.2) both.1 in
    (both.0, subst (λ (a : List ℕ). IsJudged g.key g.segment a both.0) (sym given.3) keyed, both.2)

-- ---- an audit with a key

signed_judged : (f : Found) (r : Option FileOption) (old new : Option (Option (List ℕ))) (e : End) → refused_input f ≡ r → SignedEnd f r old new e → status_of e ≢ 3 → JudgedEnd (bytes_of f.key) (bytes_of f.subject.segment) (bytes_of f.auths) (image_of f.subject) old new e × (refused_input f ≡ None)
signed_judged f None old new e is ends not3 = (ends, is)
signed_judged f (Some option) old new e is ends not3 = absurd (not3 (ap status_of ends.0))

never_none : (b : Bool) → (if b then Some Auths else Some Key) ≡ None → ⊥
never_none true is = let none : ◌≡◌ {A = Option FileOption} (Some Auths) None = is in cc
never_none false is = let none : ◌≡◌ {A = Option FileOption} (Some Key) None = is in cc

abbrev AreThere : Option (List ℕ) → Option (List ℕ) → Type 0
AreThere k a = (k ≡ Some (bytes_of k)) × (public_file (bytes_of k) ≡ true) × (a ≡ Some (bytes_of a))

are_there : (k a : Option (List ℕ)) → refused_signed k a ≡ None → AreThere k a
are_there None a is = let none : ◌≡◌ {A = Option FileOption} (Some Key) None = is in cc
are_there (Some k) None is = absurd (never_none (public_file k) is)
are_there (Some k) (Some a) is = (refl, only_true (public_file k) None Key is, refl)

abbrev given_of : Found → Given
given_of f = record { segment = bytes_of f.subject.segment; image = image_of f.subject; key = bytes_of f.key; auths = bytes_of f.auths }

are_given : (segment : List ℕ) (image : Option (List ℕ)) (names : SignedData) (old : FileMap) (f : Found) → AreFound segment image names old f → refused_input f ≡ None → AreGiven Finds segment image (Some names) old (given_of f)
are_given segment image names old f found is =
    let none = both_none (refused_inputs f.subject.image f.key f.auths) (refused_segment f.subject.segment) is in
    let inputs = both_none (refused_image f.subject.image) (refused_signed f.key f.auths) none.0 in
    let there = are_there f.key f.auths inputs.1 in (
      subst (λ (o : Option (List ℕ)). Finds (old segment) o) (segment_there f.subject.segment none.1) found.0.0,
      image_given image old f.subject.image found.0.1 (image_there f.subject.image inputs.0),
      subst (λ (o : Option (List ℕ)). Finds (old names.key) o) there.0 found.1,
      there.1,
      subst (λ (o : Option (List ℕ)). Finds (old names.auths) o) there.2 found.2,
    )

signed_zero : (segment : List ℕ) (image : Option (List ℕ)) (names : SignedData) (old new : FileMap) (e : End) → SignedEnds segment image names old new e → status_of e ≡ 0 → (g : Given) × AreGiven Finds segment image (Some names) old g × IsAcceptedGiven g
signed_zero segment image names old new e ends zero =
    let f = ends.0 in
    let at = signed_judged f (refused_input f) (old names.evidence) (new names.evidence) e refl ends.2 (λ three. omega (arith, three, zero)) in
    (given_of f, are_given segment image names old f ends.1 at.1, verdict_zero (bytes_of f.key) (bytes_of f.subject.segment) (bytes_of f.auths) (image_of f.subject) at.0.0 e at.0.1 at.0.2 zero)

-- the verdict on what is told
signed_told : (segment : List ℕ) (image : Option (List ℕ)) (names : SignedData) (old new : FileMap) (e : End) (g : Given) → AreGiven Tells segment image (Some names) old g → SignedEnds segment image names old new e → (v : Verdict) × IsJudged g.key g.segment g.auths v × VerdictEnd g.image (whole_segment_of g.segment) v e
signed_told segment image names old new e g given ends =
    let f = ends.0 in
    let found = ends.1 in
    let told = told_subject segment image old f.subject g.segment g.image found.0 given.0 given.1 in
    let named : f.key ≡ Some g.key = told_found (old names.key) g.key f.key given.2 found.1 in
    let list : f.auths ≡ Some g.auths = told_found (old names.auths) g.auths f.auths given.4 found.2 in
    let good : public_file g.key ≡ true = given.3 in
    let behind : refused_signed f.key f.auths ≡ None = rw (named, list, good) refl in
    let none : refused_input f ≡ None = rw (told.no_image, behind, told.no_segment) refl in
    let judged : JudgedEnd (bytes_of f.key) (bytes_of f.subject.segment) (bytes_of f.auths) (image_of f.subject) (old names.evidence) (new names.evidence) e = subst (λ (o : Option FileOption). SignedEnd f o (old names.evidence) (new names.evidence) e) none ends.2 in
    let v = judged.0 in
    let keyed : IsJudged g.key (bytes_of f.subject.segment) (bytes_of f.auths) v = subst (λ (o : Option (List ℕ)). IsJudged (bytes_of o) (bytes_of f.subject.segment) (bytes_of f.auths) v) named judged.1 in
    let first : IsJudged g.key g.segment (bytes_of f.auths) v = subst (λ (s : List ℕ). IsJudged g.key s (bytes_of f.auths) v) told.segment keyed in
    let all : IsJudged g.key g.segment g.auths v = subst (λ (o : Option (List ℕ)). IsJudged g.key g.segment (bytes_of o) v) list first in
    let whole : VerdictEnd (image_of f.subject) (whole_segment_of g.segment) v e = subst (λ (s : List ℕ). VerdictEnd (image_of f.subject) (whole_segment_of s) v e) told.segment judged.2 in
    (v, all, subst (λ (o : Option (List ℕ)). VerdictEnd o (whole_segment_of g.segment) v e) told.image whole)

left_evidence : (key s a : List ℕ) (v : Verdict) (o : Option EvidData) (old new : Option (Option (List ℕ))) → IsVerdict key s a v → has_evidence v ≡ true → evidence_for key (judged_of s a) v ≡ o → LeavesEvidence key v o old new → (e : EvidData) × IsShown key s a v e old new
left_evidence key s a v None old new judged some is left = let none : has_evidence v ≡ false = left.0 in cc
left_evidence key s a v (Some e) old new judged some is left =
    (e, record { verdict = judged; fault = some; evidence = is; written = left.1; stands = left.2 })

signed_one : (segment : List ℕ) (image : Option (List ℕ)) (names : SignedData) (old new : FileMap) (e : End) → SignedEnds segment image names old new e → status_of e ≡ 1 → EvidenceShown segment image (Some names) old new
signed_one segment image names old new e ends one =
    let f = ends.0 in
    let at = signed_judged f (refused_input f) (old names.evidence) (new names.evidence) e refl ends.2 (λ three. omega (arith, three, one)) in
    let judged = at.0 in
    let g = given_of f in
    let shown = left_evidence g.key g.segment g.auths judged.0 (evidence_for g.key (judged_of g.segment g.auths) judged.0) (old names.evidence) (new names.evidence) judged.1.0 (verdict_one g.image (whole_segment_of g.segment) judged.0 e judged.2 one) refl judged.3 in
    (g, judged.0, shown.0, are_given segment image names old f ends.1 at.1, shown.1)

-- ---- both

audit_zero : (segment : List ℕ) (image : Option (List ℕ)) (signed : Option SignedData) (old new : FileMap) (e : End) → AuditEnds segment image signed old new e → status_of e ≡ 0 → (g : Given) × AreGiven Finds segment image signed old g × IsAcceptedGiven g
audit_zero segment image None old new e ends zero = plain_zero segment image old e ends zero
audit_zero segment image (Some names) old new e ends zero = signed_zero segment image names old new e ends zero

audit_told : (segment : List ℕ) (image : Option (List ℕ)) (signed : Option SignedData) (old new : FileMap) (e : End) (g : Given) → AreGiven Tells segment image signed old g → AuditEnds segment image signed old new e → (v : Verdict) × IsJudged g.key g.segment g.auths v × VerdictEnd g.image (whole_segment_of g.segment) v e
audit_told segment image None old new e g given ends = plain_told segment image old e g given ends
audit_told segment image (Some names) old new e g given ends = signed_told segment image names old new e g given ends

audit_accepts : (segment : List ℕ) (image : Option (List ℕ)) (signed : Option SignedData) (old new : FileMap) (e : End) (g : Given) → AreGiven Tells segment image signed old g → AuditEnds segment image signed old new e → IsAcceptedBytes g.key g.segment g.auths → BeginsAsGiven g.image (whole_segment_of g.segment) → status_of e ≡ 0
audit_accepts segment image signed old new e g given ends accepted begins =
    let told = audit_told segment image signed old new e g given ends in
    verdict_accepts g.key g.segment g.auths g.image told.0 e told.1 told.2 accepted begins

audit_refuses : (segment : List ℕ) (image : Option (List ℕ)) (signed : Option SignedData) (old new : FileMap) (e : End) (g : Given) → AreGiven Tells segment image signed old g → AuditEnds segment image signed old new e → IsAcceptedBytes g.key g.segment g.auths → (BeginsAsGiven g.image (whole_segment_of g.segment) → ⊥) → e ≡ end.RefusedImage
audit_refuses segment image signed old new e g given ends accepted not =
    let told = audit_told segment image signed old new e g given ends in
    verdict_refuses g.key g.segment g.auths g.image told.0 e told.1 told.2 accepted not

audit_one : (segment : List ℕ) (image : Option (List ℕ)) (signed : Option SignedData) (old new : FileMap) (e : End) → AuditEnds segment image signed old new e → status_of e ≡ 1 → EvidenceShown segment image signed old new
audit_one segment image None old new e ends one = plain_one segment image old e ends one
audit_one segment image (Some names) old new e ends one = signed_one segment image names old new e ends one

-- the status and the line of a refused image
refused_so : (e : End) (before after : Option (List ℕ)) (result : ℕ) → e ≡ end.RefusedImage → status_of e ≡ result → IsPrinted e before after → (result ≡ 2) × IsPrinted end.RefusedImage before after
refused_so e before after result is status printed = (sym status ∙ ap status_of is, subst (λ (x : End). IsPrinted x before after) is printed)

-- what an audit's status says
pub audit_means : (segment : List ℕ) (image : Option (List ℕ)) (signed : Option SignedData) (old new : FileMap) (f g b n : ℕ) (before after : Option (List ℕ)) (result : ℕ) → AuditRuns segment image signed old new f g b n before after result → AuditMeans segment image signed old new before after result
audit_means segment image signed old new f g b n before after result runs =
    let Ends = AuditEnds segment image signed old new in
    let come : (k : ℕ) → result ≡ k → k ≢ 4 → k ≢ 5 → IsEnded Ends before after k = ended Ends (AuditLeaves segment image signed old new) (SameFiles old new) f g b n before after result runs in
    record {
      accepted = λ zero. let at = come 0 zero (λ four. omega (arith, four)) (λ five. omega (arith, five)) in let z = audit_zero segment image signed old new at.0 at.1 at.2 in (z.0, z.1, z.2.0, z.2.1);
      accepts = λ x given accepted begins not4 not5. let at = come result refl not4 not5 in sym at.2 ∙ audit_accepts segment image signed old new at.0 x given at.1 accepted begins;
      refuses = λ x given accepted not not4 not5. let at = come result refl not4 not5 in refused_so at.0 before after result (audit_refuses segment image signed old new at.0 x given at.1 accepted not) at.2 at.3;
      fault = λ one. let at = come 1 one (λ four. omega (arith, four)) (λ five. omega (arith, five)) in audit_one segment image signed old new at.0 at.1 at.2;
    }

-- ---- a check

check_judged : (key bytes : List ℕ) (r : Option FileOption) (k b : Option (List ℕ)) (e : End) → refused_check k b ≡ r → CheckEnd key bytes r e → status_of e ≢ 3 → StandsOrNot key bytes e × (refused_check k b ≡ None)
check_judged key bytes None k b e is ends not3 = (ends, is)
check_judged key bytes (Some option) k b e is ends not3 = absurd (not3 (ap status_of ends))

never_check : (b : Bool) → (if b then Some Evidence else Some Key) ≡ None → ⊥
never_check true is = let none : ◌≡◌ {A = Option FileOption} (Some Evidence) None = is in cc
never_check false is = let none : ◌≡◌ {A = Option FileOption} (Some Key) None = is in cc

both_there : (k b : Option (List ℕ)) → refused_check k b ≡ None → (k ≡ Some (bytes_of k)) × (public_file (bytes_of k) ≡ true) × (b ≡ Some (bytes_of b))
both_there None b is = let none : ◌≡◌ {A = Option FileOption} (Some Key) None = is in cc
both_there (Some k) None is = absurd (never_check (public_file k) is)
both_there (Some k) (Some b) is = (refl, only_true (public_file k) None Key is, refl)

stands_zero : (key bytes : List ℕ) (e : End) → StandsOrNot key bytes e → status_of e ≡ 0 → Stands key bytes
stands_zero key bytes e told zero =
    elim told [
      | inl good ↦ good.1
      | inr bad ↦ let two : status_of e ≡ 2 = ap status_of bad.0 in absurd (omega (arith, two, zero))
    ]

zero_stands : (key bytes : List ℕ) (e : End) → StandsOrNot key bytes e → Stands key bytes → status_of e ≡ 0
zero_stands key bytes e told stands =
    elim told [ inl good ↦ ap status_of good.0 | inr bad ↦ absurd (bad.1 stands) ]

check_zero : (key evidence : List ℕ) (old : FileMap) (e : End) → CheckEnds key evidence old e → status_of e ≡ 0 → (k : List ℕ) × (bytes : List ℕ) × Finds (old key) (Some k) × Finds (old evidence) (Some bytes) × (public_file k ≡ true) × Stands k bytes
check_zero key evidence old e ends zero =
    let k = ends.0 in
    let b = ends.1 in
    let at = check_judged (bytes_of k) (bytes_of b) (refused_check k b) k b e refl ends.4 (λ three. omega (arith, three, zero)) in
    let there = both_there k b at.1 in
    (bytes_of k, bytes_of b, subst (λ (o : Option (List ℕ)). Finds (old key) o) there.0 ends.2, subst (λ (o : Option (List ℕ)). Finds (old evidence) o) there.2 ends.3, there.1, stands_zero (bytes_of k) (bytes_of b) e at.0 zero)

check_accepts : (key evidence : List ℕ) (old : FileMap) (e : End) (k bytes : List ℕ) → Tells (old key) (Some k) → Tells (old evidence) (Some bytes) → public_file k ≡ true → Stands k bytes → CheckEnds key evidence old e → status_of e ≡ 0
check_accepts key evidence old e k bytes named told good stands ends =
    let first : ends.0 ≡ Some k = told_found (old key) k ends.0 named ends.2 in
    let second : ends.1 ≡ Some bytes = told_found (old evidence) bytes ends.1 told ends.3 in
    let none : refused_check ends.0 ends.1 ≡ None = rw (first, second, good) refl in
    let judged : StandsOrNot (bytes_of ends.0) (bytes_of ends.1) e = subst (λ (o : Option FileOption). CheckEnd (bytes_of ends.0) (bytes_of ends.1) o e) none ends.4 in
    let by : StandsOrNot k bytes e = subst (λ (o : Option (List ℕ)). StandsOrNot k (bytes_of o) e) second (subst (λ (o : Option (List ℕ)). StandsOrNot (bytes_of o) (bytes_of ends.1) e) first judged) in
    zero_stands k bytes e by stands

-- what a check's status says
pub check_means : (key evidence : List ℕ) (old new : FileMap) (f g b n : ℕ) (before after : Option (List ℕ)) (result : ℕ) → CheckRuns key evidence old new f g b n before after result → CheckMeans key evidence old result
check_means key evidence old new f g b n before after result runs =
    let come : (k : ℕ) → result ≡ k → k ≢ 4 → k ≢ 5 → IsEnded (CheckEnds key evidence old) before after k = ended (CheckEnds key evidence old) (SameFiles old new) (SameFiles old new) f g b n before after result runs in
    record {
      stands = λ zero. let at = come 0 zero (λ four. omega (arith, four)) (λ five. omega (arith, five)) in check_zero key evidence old at.0 at.1 at.2;
      accepts = λ k bytes named told good stands not4 not5. let at = come result refl not4 not5 in sym at.2 ∙ check_accepts key evidence old at.0 k bytes named told good stands at.1;
    }
