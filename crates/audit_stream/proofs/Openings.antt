-- The front of a stream.
use Rattle.std.proofs.Common.{◌≡◌, ℕ, ◌<◌, ◌≤◌, Bool, true, false, nat_le, is_some, List, [], ◌++◌, length, take, drop, Option, Some, None, IfSome, IfNone, inl, inr, refl, sym, ap, subst, ◌∙◌, append_assoc, append-nil, arith, leb-true}
use Rattle.std.proofs.lemmas.List.{take-append-drop, take_all}
use Rattle.avm_num.specs.Bytes.{IsBytes}
use Rattle.avm_num.proofs.Numbers.{IsBytes-take, IsBytes-drop}
use Rattle.avm_model.specs.Audit.{Judged, judged_of}
use Rattle.avm_model.specs.Head.{HeadData}
use Rattle.avm_model.specs.HeadReading.{head_of}
use Rattle.avm_model.specs.Segment.{SegmentFront, FitsSegmentFront, segment_front_bytes}
use Rattle.seg_file.proofs.SegmentLaws.{reads_front, whole_read}
use Rattle.audit_stream.proofs.Acceptance.{no_auths}
use Rattle.audit_stream.proofs.ReadParts.{read_is}
use Rattle.avm_num.specs.Sizes.{IsShort}
use Rattle.seg_file.specs.Coming.{nothing, taken, with_rest, with_page, with_frame, with_front, segment_in}
use Rattle.seg_file.specs.Filling.{is_live}
use Rattle.seg_file.specs.Places.{part_size, longest, At, Never, Knows, Standing}
use Rattle.seg_file.specs.Reading.{Reading, Took, Goes}
use Rattle.seg_file.specs.declared.filling.Part.{Part}
use Rattle.seg_file.specs.declared.filling.Part.TheVariants as part
use Rattle.seg_file.specs.declared.place.Stage.{Stage}
use Rattle.seg_file.specs.declared.place.Stage.TheVariants as stage
use Rattle.avm_num.proofs.Lengths.{bytes_append}
use Rattle.seg_file.proofs.Steps.{taken_rest}
use Rattle.seg_file.proofs.Wholes.{front_not}
use Rattle.seg_file.proofs.Parsing.{has}
use Rattle.audit_stream.specs.Heard.{HeardBy, Heard}
use Rattle.audit_stream.specs.Parts.{is_head}
use Rattle.audit_stream.specs.Subject.{IsSubject, NotJudged}
use Rattle.audit_stream.specs.Streaming.{Streaming}
use Rattle.audit_stream.specs.declared.subject.Subject.{Subject}
use Rattle.audit_stream.proofs.Finishing.{judged_none}
use Rattle.audit_stream.proofs.Subjects.{head_count}

abbrev stream_of : Reading → Bool → Option Subject → Streaming
stream_of r b s = record { reader = r; begun = b; subject = s }

no_front : {A : Type 0} (f : SegmentFront) → None ≡ Some f → A
no_front f e = absurd (apart e)
  where
    apart : None ≡ Some f → ⊥
    apart p = cc

taken_nothing : taken nothing ≡ []
unfolding taken
taken_nothing = refl

not_long : (n : ℕ) → n < 16384 → nat_le 16384 n ≡ false
not_long n lt = go (nat_le 16384 n) refl
  where
    go : (b : Bool) → nat_le 16384 n ≡ b → b ≡ false
    go false e = refl
    go true e = let le = leb-true 16384 n e in absurd (omega (arith, le, lt))

-- ---- no head has come

-- no continuation is a segment
bad_front : (r : Reading) (n : ℕ) (front key auths : List ℕ) (begun : Bool) → IsBytes front → Never (with_rest nothing (take n front)) → Heard (stream_of r begun None) key auths front
bad_front r n front key auths begun fits never = record {
  bytes_are = fits;
  by = λ more mf b.
      let is : front ++ more ≡ taken (with_rest nothing (take n front)) ++ (drop n front ++ more) =
      ap (λ (t : List ℕ). t ++ more) (sym (take-append-drop n front)) ∙ append_assoc (take n front) (drop n front) more ∙ ap (λ (t : List ℕ). t ++ (drop n front ++ more)) (sym (taken_rest nothing (take n front) ∙ ap (λ (t : List ℕ). t ++ take n front) taken_nothing)) in
      let none : segment_in (front ++ more) ≡ None = ap segment_in is ∙ never (drop n front ++ more) (bytes_append (drop n front) more (IsBytes-drop n front fits) mf) in
      judged_none (front ++ more) auths (bytes_append front more fits mf) none;
}

-- the front isn't whole
short_front : (r : Reading) (n : ℕ) (front key auths : List ℕ) → IsBytes front → n ≡ length front → is_live r.place.stage ≡ true → Took r (with_rest nothing (take n front)) → Heard (stream_of r (nat_le 16384 (length front)) None) key auths front
short_front r n front key auths fits all live st = go r.place.stage live st.at st.short st.most
  where
    whole : take n front ≡ front
    whole = ap (λ (k : ℕ). take k front) all ∙ take_all (length front) front (omega arith)

    is : taken (with_rest nothing (take n front)) ≡ front
    is = taken_rest nothing (take n front) ∙ ap (λ (t : List ℕ). t ++ take n front) taken_nothing ∙ whole

    go : (s : Stage) → is_live s ≡ true → At s r.place r.part (with_rest nothing (take n front)) → IsShort (part_size s r.part) r.part → length r.part ≤ longest s → Heard (stream_of r (nat_le 16384 (length front)) None) key auths front
    go (stage.Page i) live at short most = no_front at.head at.front
    go stage.Entries live at short most = no_front at.head at.front
    go stage.Bad live at short most = absurd cc
    go stage.Front live at short most =
        let part : front ≡ r.part = sym whole ∙ at.rest in
        let none : segment_in front ≡ None = ap segment_in (sym is) ∙ front_not r.place r.part (with_rest nothing (take n front)) (subst IsBytes part fits) short at in
        let len : length front ≡ length r.part = ap length part in
        record {
          bytes_are = fits;
          by = λ more mf b.
              let under : nat_le 16384 (length front) ≡ false = not_long (length front) (omega (arith, len, most)) in
              let nil : more ≡ [] = b under in
              ap (λ (t : List ℕ). judged_of (front ++ t) auths) nil ∙ ap (λ (t : List ℕ). judged_of t auths) (append-nil front) ∙ judged_none front auths fits none;
        }

-- the first part was no head
pub nothing_yet : (p : Part) (r : Reading) (n : ℕ) (front key auths : List ℕ) → IsBytes front → is_head p ≡ false → (p ≡ part.More → n ≡ length front) → Goes p (take n front) nothing r → Heard (stream_of r (nat_le 16384 (length front)) None) key auths front
nothing_yet part.More r n front key auths fits e all g = short_front r n front key auths fits (all refl) g.0 g.1
nothing_yet part.Head r n front key auths fits e all g = absurd cc
nothing_yet (part.Page i) r n front key auths fits e all g = no_page r.place.stage g.4 g.5.at
  where
    no_page : (s : Stage) → is_live s ≡ true → At s r.place r.part (with_page nothing ([] ++ take n front)) → Heard (stream_of r (nat_le 16384 (length front)) None) key auths front
    no_page stage.Front live at = let l = ap length at.pages in let size = g.2 in absurd (omega (arith, l, size))
    no_page (stage.Page j) live at = no_front at.head at.front
    no_page stage.Entries live at = no_front at.head at.front
    no_page stage.Bad live at = absurd cc
nothing_yet part.Frame r n front key auths fits e all g = no_entry r.place.stage g.4 g.5.at
  where
    no_entry : (s : Stage) → is_live s ≡ true → At s r.place r.part (with_frame nothing g.0) → Heard (stream_of r (nat_le 16384 (length front)) None) key auths front
    no_entry stage.Front live at = absurd cc
    no_entry (stage.Page j) live at = no_front at.head at.front
    no_entry stage.Entries live at = no_front at.head at.front
    no_entry stage.Bad live at = absurd cc
nothing_yet part.Bad r n front key auths fits e all g =
    let st : Standing r.place r.part (with_rest nothing (take n front)) = g.1 in
    bad_front r n front key auths (nat_le 16384 (length front)) fits (subst (λ (x : Stage). At x r.place r.part (with_rest nothing (take n front))) g.0 st.at)

-- ---- the head has come

head_not : (f : SegmentFront) (more auths : List ℕ) → IsBytes (segment_front_bytes f ++ more) → FitsSegmentFront f → is_some (head_of f.head) ≡ false → judged_of (segment_front_bytes f ++ more) auths ≡ None
head_not f more auths fits front no_head = go (judged_of (segment_front_bytes f ++ more) auths) refl
  where
    same : (a b : SegmentFront × List ℕ) → Some a ≡ Some b → a.0 ≡ b.0
    same a b q = let x : a ≡ b = cc in ap (λ (z : SegmentFront × List ℕ). z.0) x

    apart : false ≡ true → ⊥
    apart q = cc

    go : (o : Option Judged) → judged_of (segment_front_bytes f ++ more) auths ≡ o → o ≡ None
    go None e = refl
    go (Some d) e =
        let w = whole_read (segment_front_bytes f ++ more) (d.segment, d.head) fits (read_is (segment_front_bytes f ++ more) auths d e).0 in
        let h = has (segment_front_bytes f ++ more) d.segment w.2 in
        let is : d.segment.front ≡ f = same (d.segment.front, h.behind) (f, more) (sym h.front ∙ reads_front.again f more front) in
        let there : is_some (head_of f.head) ≡ true = ap (λ (x : SegmentFront). is_some (head_of x.head)) (sym is) ∙ ap is_some w.3 in
        absurd (apart (sym no_head ∙ there))

not_judged : (f : SegmentFront) (more auths : List ℕ) → IsBytes (segment_front_bytes f ++ more) → FitsSegmentFront f → NotJudged f.head auths → judged_of (segment_front_bytes f ++ more) auths ≡ None
not_judged f more auths fits front (inl e) = no_auths (segment_front_bytes f ++ more) auths e
not_judged f more auths fits front (inr e) = head_not f more auths fits front e

taken_front_is : (f : SegmentFront) → segment_front_bytes f ≡ taken (with_front f)
unfolding taken
taken_front_is f = sym (append-nil (segment_front_bytes f))

-- the page count that the reader knows is the head's
pub pages_said : (r : Reading) (n pages : ℕ) (front head : List ℕ) → Goes part.Head (take n front) nothing r → pages ≡ r.place.pages → ((f : SegmentFront) → FitsSegmentFront f → r.last ≡ segment_front_bytes f → head ≡ f.head)
    → (h : HeadData) → head_of head ≡ Some h → pages ≡ h.front.pages
pages_said r n pages front head g is head_is h e =
    is ∙ head_count g.0 h r.place.pages g.4.count.0 (ap head_of (sym (head_is g.0 g.4.fits g.3)) ∙ e) g.4.count.1

-- what was judged of the front that the reader took
pub front_heard : (r : Reading) (o : Option Subject) (n first : ℕ) (front before head key auths : List ℕ) → IsBytes front → Goes part.Head (take n front) nothing r → first ≡ r.place.start → before ≡ r.place.before.0
    → ((f : SegmentFront) → FitsSegmentFront f → r.last ≡ segment_front_bytes f → head ≡ f.head) → IfNone o (NotJudged head auths)
    → IfSome o (λ s. (f : SegmentFront) → f.start ≡ first → f.before ≡ before → f.head ≡ head → IsSubject s key auths (with_front f)) → Heard (stream_of r true o) key auths (take n front)
front_heard r o n first front before head key auths fits g start_is before_is head_is none some =
    let f = g.0 in
    let knows = g.4 in
    let same : head ≡ f.head = head_is f knows.fits g.3 in
    let bytes : take n front ≡ segment_front_bytes f = g.2 in
    record { bytes_are = IsBytes-take n front fits; by = go o none some f knows same bytes g.5 }
  where
    go : (o : Option Subject) → IfNone o (NotJudged head auths) → IfSome o (λ s. (f : SegmentFront) → f.start ≡ first → f.before ≡ before → f.head ≡ head → IsSubject s key auths (with_front f))
        → (f : SegmentFront) → Knows r.place f → head ≡ f.head → take n front ≡ segment_front_bytes f → Took r (with_front f) → HeardBy o (stream_of r true o) key auths (take n front)
    go None none some f knows same bytes took = λ more mf b.
        let fits_all : IsBytes (segment_front_bytes f ++ more) = bytes_append (segment_front_bytes f) more (subst IsBytes bytes (IsBytes-take n front fits)) mf in
        ap (λ (t : List ℕ). judged_of (t ++ more) auths) bytes ∙ not_judged f more auths fits_all knows.fits (subst (λ (x : List ℕ). NotJudged x auths) same none)
    go (Some s) none some f knows same bytes took = (with_front f, bytes ∙ taken_front_is f, took, some f (sym knows.start ∙ sym start_is) (sym knows.before ∙ sym before_is) (sym same))

-- the flag alone is set
pub flag_set : (a : Streaming) (b : Bool) (key auths bytes : List ℕ) → a.begun ≡ true → Heard a key auths bytes → Heard (stream_of a.reader b a.subject) key auths bytes
flag_set a b key auths bytes e h = record { bytes_are = h.bytes_are; by = go a.subject h.by }
  where
    apart : true ≡ false → ⊥
    apart q = cc

    go : (o : Option Subject) → HeardBy o a key auths bytes → HeardBy o (stream_of a.reader b a.subject) key auths bytes
    go None by = λ more mf c. by more mf (λ (q : a.begun ≡ false). absurd (apart (sym e ∙ q)))
    go (Some s) by = by

pub head_is : (p : Part) → is_head p ≡ true → p ≡ part.Head
head_is part.More e = absurd cc
head_is part.Head e = refl
head_is (part.Page i) e = absurd cc
head_is part.Frame e = absurd cc
head_is part.Bad e = absurd cc
