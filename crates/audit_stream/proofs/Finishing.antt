-- The verdict, where the segment is whole.
use Rattle.std.proofs.Common.{append-nil}
use Rattle.seg_file.specs.Reading.{Took}
use Rattle.audit_stream.specs.Heard.{HeardBy, Heard}
use Rattle.audit_stream.specs.Streaming.{Streaming}
use Rattle.avm_model.specs.Reference.{IsFaultNumber}
use Rattle.audit_stream.specs.declared.course.Course.{Course}
use Rattle.std.proofs.Common.{◌≡◌, ℕ, Bool, true, false, List, [], ◌∷◌, map, Option, Some, None, is_some, refl, sym, ap, subst, ◌∙◌, arith}
use Rattle.avm_num.specs.Bytes.{IsBytes}
use Rattle.avm_model.specs.Audit.{judged_of, last_number, is_committed, behind_first, IsVerdict}
use Rattle.avm_model.specs.Auth.{AuthData}
use Rattle.avm_model.specs.Entries.{are_entries}
use Rattle.avm_model.specs.Frame.{FrameData, frames_of}
use Rattle.avm_model.specs.Head.{HeadData}
use Rattle.avm_model.specs.HeadReading.{head_of}
use Rattle.avm_model.specs.HeadState.{state_of}
use Rattle.avm_model.specs.Marks.{marked}
use Rattle.avm_model.specs.Segment.{SegmentFront, SegmentData}
use Rattle.avm_model.specs.Verdict.{verdict, marks}
use Rattle.avm_model.specs.declared.judged.Marked.{Marked}
use Rattle.avm_model.specs.declared.judged.Verdict.{Verdict}
use Rattle.avm_model.specs.declared.judged.Verdict.TheVariants.{Malformed}
use Rattle.seg_file.proofs.Inside.{none_inside}
use Rattle.seg_file.proofs.SegmentLaws.{segment_read}
use Rattle.audit_stream.specs.Cases.{case_from}
use Rattle.audit_stream.proofs.Acceptance.{all_judged, judged_is, malformed}
use Rattle.seg_file.specs.Coming.{Coming, taken, segment_in}
use Rattle.seg_file.specs.Reading.{IsRead}
use Rattle.audit_stream.specs.Course.{IsCourse}
use Rattle.audit_stream.specs.Rows.{verdict_by, AreRows}
use Rattle.audit_stream.specs.Subject.{IsSubject}
use Rattle.audit_stream.specs.declared.subject.Subject.{Subject}

-- ---- no segment

pub judged_none : (bytes auths : List ℕ) → IsBytes bytes → segment_in bytes ≡ None → judged_of bytes auths ≡ None
unfolding judged_of
judged_none bytes auths fits none = rw (none_inside bytes fits none) refl

-- ---- the rows

rows_are : (bad : Option ℕ) (double : Option (ℕ × ℕ)) (own : List AuthData) (key : List ℕ) (auths : List AuthData) (first last : ℕ) (before : List ℕ) (frames : List FrameData) (committed : Bool) (fault : Option ℕ) (ms : List Marked)
    → AreRows bad double own key auths → ms ≡ map (marked before frames) own → verdict_by bad double first last committed fault ms ≡ verdict (case_from key first last before frames committed fault auths)
unfolding verdict marks
rows_are (Some k) double own key auths first last before frames committed fault ms r e = rw (← r.bad_is) refl
rows_are None double own key auths first last before frames committed fault ms r e = rw (← r.bad_is, r.double_is refl, e, r.own_is refl) refl

-- ---- the verdict

some_front : (x y : SegmentFront) → Some x ≡ Some y → x ≡ y
some_front x y h = cc

no_entries : (start : ℕ) (before bytes : List ℕ) → frames_of bytes ≡ [] → are_entries start before bytes ≡ true → ⊥
unfolding are_entries
no_entries start before bytes e t = apart (sym (rw e refl) ∙ t)
  where
    apart : false ≡ true → ⊥
    apart h = cc

course_facts : (x : Course) (h : HeadData) (pages : List ℕ) (fs : List FrameData) (s : SegmentData) → are_entries s.front.start s.front.before s.frames ≡ true → s.pages ≡ pages → frames_of s.frames ≡ fs → IsCourse x h pages fs
    → (x.committed ≡ is_committed (state_of h s.pages) (frames_of s.frames)) × IsFaultNumber (state_of h s.pages) (behind_first (frames_of s.frames)) x.fault
course_facts x h pages [] s entries p e is = absurd (no_entries s.front.start s.front.before s.frames e entries)
course_facts x h pages (f ∷ fs) s entries p e is = rw (p, e) (is.1, is.2)

pub finish_is : (key auths : List ℕ) (c : Coming) (s : Subject) (v : Verdict) → IsBytes (taken c) → IsRead c → IsSubject s key auths c
    → v ≡ verdict_by s.bad s.double s.first s.last s.course.committed s.course.fault s.matching.marks → IsVerdict key (taken c) auths v
finish_is key auths c s v fits read is e =
    let front : read.segment.front ≡ is.front = some_front read.segment.front is.front (sym read.front ∙ is.there) in
    let head : head_of read.segment.front.head ≡ Some is.head = ap (λ (f : SegmentFront). head_of f.head) front ∙ is.head_is in
    let judged = all_judged (taken c) auths read.segment is.head is.list (sym read.is) head is.list_is in
    let entries = (segment_read (taken c) read.segment fits read.is).1.entries in
    let rows = rows_are s.bad s.double s.matching.auths key is.list s.first s.last is.front.before c.frames s.course.committed s.course.fault s.matching.marks is.rows is.matches.marks in
    let first : s.first ≡ read.segment.front.start = is.first ∙ ap (λ (f : SegmentFront). f.start) (sym front) in
    let before : is.front.before ≡ read.segment.front.before = ap (λ (f : SegmentFront). f.before) (sym front) in
    let last : s.last ≡ last_number 0 (frames_of read.segment.frames) = is.last ∙ ap (last_number 0) (sym read.frames) in
    let value : v ≡ verdict (case_from key read.segment.front.start (last_number 0 (frames_of read.segment.frames)) read.segment.front.before (frames_of read.segment.frames) s.course.committed s.course.fault is.list) = e ∙ rows ∙ rw (first, before, last, read.frames) refl in
    let f = course_facts s.course is.head c.pages c.frames read.segment entries read.pages read.frames is.course in
    judged_is key (taken c) auths read.segment is.head is.list s.course.committed s.course.fault v judged f.0 f.1 value

-- ---- what has been heard

-- the stream as its fields show it
pub heard_inside : {a b : Streaming} → a ≡ b → (key auths bytes : List ℕ) → Heard a key auths bytes → Heard b key auths bytes
heard_inside is key auths bytes h = subst (λ (x : Streaming). Heard x key auths bytes) is h

no_segment : (key bytes auths : List ℕ) → judged_of bytes auths ≡ None → IsVerdict key bytes auths Malformed
no_segment key bytes auths e = malformed key bytes auths e

pub nothing_heard : (a : Streaming) (key auths bytes : List ℕ) → a.subject ≡ None → Heard a key auths bytes → IsVerdict key bytes auths Malformed
nothing_heard a key auths bytes e h =
    let by : HeardBy None a key auths bytes = subst (λ (o : Option Subject). HeardBy o a key auths bytes) e h.by in
    no_segment key bytes auths (ap (λ (t : List ℕ). judged_of t auths) (sym (append-nil bytes)) ∙ by [] (λ i. omega arith) (λ b. refl))

none_in : (o : Option SegmentData) → false ≡ is_some o → o ≡ None
none_in None e = refl
none_in (Some s) e = absurd cc

pub not_whole : (a : Streaming) (s : Subject) (key auths bytes : List ℕ) → a.subject ≡ Some s → ((c : Coming) → Took a.reader c → false ≡ is_some (segment_in (taken c))) → Heard a key auths bytes → IsVerdict key bytes auths Malformed
not_whole a s key auths bytes e exact h =
    let by : HeardBy (Some s) a key auths bytes = subst (λ (o : Option Subject). HeardBy o a key auths bytes) e h.by in
    let none : segment_in (taken by.0) ≡ None = none_in (segment_in (taken by.0)) (exact by.0 by.2) in
    no_segment key bytes auths (judged_none bytes auths h.bytes_are (ap segment_in by.1 ∙ none))

pub all_heard : (a : Streaming) (s : Subject) (key auths bytes : List ℕ) (v : Verdict) → a.subject ≡ Some s → ((c : Coming) → Took a.reader c → IsRead c) → v ≡ verdict_by s.bad s.double s.first s.last s.course.committed s.course.fault s.matching.marks
    → Heard a key auths bytes → IsVerdict key bytes auths v
all_heard a s key auths bytes v e parts is h =
    let by : HeardBy (Some s) a key auths bytes = subst (λ (o : Option Subject). HeardBy o a key auths bytes) e h.by in
    let fits : IsBytes (taken by.0) = subst IsBytes by.1 h.bytes_are in
    subst (λ (t : List ℕ). IsVerdict key t auths v) (sym by.1) (finish_is key auths by.0 s v fits (parts by.0 by.2) by.3 is)
