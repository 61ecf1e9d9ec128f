-- A part more of a stream.
use Rattle.std.proofs.Common.{◌≡◌, ℕ, ◌+◌, ◌*◌, ◌<◌, Bool, true, false, List, [], ◌++◌, length, take, drop, Option, Some, None, refl, sym, ap, subst, ◌∙◌, append_assoc, arith}
use Rattle.std.proofs.lemmas.List.{take-append-drop, take_all, take-take, drop-take}
use Rattle.avm_num.specs.Bytes.{IsBytes}
use Rattle.avm_num.proofs.Numbers.{IsBytes-drop}
use Rattle.avm_model.specs.Frame.{FrameData, FitsFrame, frame_bytes}
use Rattle.avm_model.specs.Segment.{SegmentFront}
use Rattle.seg_file.specs.Coming.{Coming, taken, with_rest, with_page, with_frame, segment_in}
use Rattle.seg_file.specs.Places.{At, Never, Standing}
use Rattle.seg_file.specs.Reading.{Reading, Took, Goes}
use Rattle.seg_file.specs.declared.filling.Part.TheVariants as part
use Rattle.seg_file.specs.declared.place.Stage.{Stage}
use Rattle.avm_num.proofs.Lengths.{bytes_append}
use Rattle.seg_file.proofs.Steps.{taken_rest, taken_page, taken_frame}
use Rattle.audit_stream.specs.Heard.{HeardBy, Heard}
use Rattle.audit_stream.specs.Subject.{IsSubject}
use Rattle.audit_stream.specs.Streaming.{Streaming}
use Rattle.audit_stream.specs.declared.subject.Subject.{Subject}
use Rattle.audit_stream.proofs.Finishing.{judged_none}
use Rattle.audit_stream.proofs.Subjects.{entry_next, page_next, head_count}

abbrev stream_of : Reading → Bool → Option Subject → Streaming
stream_of r b s = record { reader = r; begun = b; subject = s }

heard_some : (a : Streaming) (s : Subject) (key auths bytes : List ℕ) → a.subject ≡ Some s → Heard a key auths bytes → (c : Coming) × (bytes ≡ taken c) × Took a.reader c × IsSubject s key auths c
heard_some a s key auths bytes e h = subst (λ (o : Option Subject). HeardBy o a key auths bytes) e h.by

rest_subject : (s : Subject) (key auths b : List ℕ) (c : Coming) → IsSubject s key auths c → IsSubject s key auths (with_rest c b)
rest_subject s key auths b c is = record {
  front = is.front;
  there = is.there;
  head = is.head;
  head_is = is.head_is;
  list = is.list;
  list_is = is.list_is;
  first = is.first;
  last = is.last;
  rows = is.rows;
  matches = is.matches;
  course = is.course;
}

pub step_more : (a : Streaming) (s : Subject) (r : Reading) (b key auths bytes : List ℕ) → a.subject ≡ Some s → IsBytes b → ((c : Coming) → Took a.reader c → Goes part.More b c r) → Heard a key auths bytes → Heard (stream_of r a.begun (Some s)) key auths (bytes ++ b)
step_more a s r b key auths bytes e fits goes h =
    let by = heard_some a s key auths bytes e h in
    let g = goes by.0 by.2 in
    record {
      bytes_are = bytes_append bytes b h.bytes_are fits;
      by = (with_rest by.0 b, ap (λ (t : List ℕ). t ++ b) by.1 ∙ sym (taken_rest by.0 b), g.1, rest_subject s key auths b by.0 by.3);
    }

pub step_page : (a : Streaming) (s new : Subject) (r : Reading) (i : ℕ) (b page key auths bytes : List ℕ) → a.subject ≡ Some s → IsBytes b → ((c : Coming) → Took a.reader c → Goes (part.Page i) b c r) → page ≡ r.last
    → ((key auths : List ℕ) (c : Coming) (is : IsSubject s key auths c) → i < is.head.front.pages → length c.pages ≡ 4096 * i → c.frames ≡ [] → IsSubject new key auths (with_page c page))
    → Heard a key auths bytes → Heard (stream_of r a.begun (Some new)) key auths (bytes ++ b)
step_page a s new r i b page key auths bytes e fits goes held more h =
    let by = heard_some a s key auths bytes e h in
    let c = by.0 in
    let g = goes by.0 by.2 in
    let is = by.3 in
    let n = page_next r c (c.rest ++ b) i is.front g.4 is.there g.0 g.2 g.5 in
    let count = head_count is.front is.head n.count n.rest is.head_is n.count_is in
    let within = n.within in
    let next : IsSubject new key auths (with_page c page) = more key auths c is (omega (arith, within, count)) g.0 g.1 in
    let same : page ≡ c.rest ++ b = held ∙ g.3 in
    record {
      bytes_are = bytes_append bytes b h.bytes_are fits;
      by = (
        with_page c (c.rest ++ b),
        ap (λ (t : List ℕ). t ++ b) by.1 ∙ sym (taken_rest c b) ∙ sym (taken_page (with_rest c b) (c.rest ++ b) g.1 refl),
        g.5,
        subst (λ (t : List ℕ). IsSubject new key auths (with_page c t)) same next,
      );
    }

pub step_frame : (a : Streaming) (s new : Subject) (r : Reading) (f : FrameData) (b key auths bytes : List ℕ) → a.subject ≡ Some s → IsBytes b → ((c : Coming) → Took a.reader c → Goes part.Frame b c r) → ((g : FrameData) → FitsFrame g → r.last ≡ frame_bytes g → f ≡ g)
    → ((key auths : List ℕ) (c : Coming) (is : IsSubject s key auths c) → f.seq ≡ is.front.start + length c.frames → length c.pages ≡ 4096 * is.head.front.pages → IsSubject new key auths (with_frame c f))
    → Heard a key auths bytes → Heard (stream_of r a.begun (Some new)) key auths (bytes ++ b)
step_frame a s new r f b key auths bytes e fits goes held more h =
    let by = heard_some a s key auths bytes e h in
    let c = by.0 in
    let g = goes by.0 by.2 in
    let is = by.3 in
    let same : f ≡ g.0 = held g.0 g.1 g.3 in
    let n = entry_next r c g.0 is.front g.4 is.there g.5 in
    let count = head_count is.front is.head n.count n.rest is.head_is n.count_is in
    let pages : length c.pages ≡ 4096 * is.head.front.pages = n.pages ∙ ap (λ (k : ℕ). 4096 * k) count in
    let next : IsSubject new key auths (with_frame c f) = more key auths c is (ap (λ (x : FrameData). x.seq) same ∙ n.seq) pages in
    record {
      bytes_are = bytes_append bytes b h.bytes_are fits;
      by = (
        with_frame c g.0,
        ap (λ (t : List ℕ). t ++ b) by.1 ∙ sym (taken_rest c b) ∙ sym (taken_frame (with_rest c b) g.0 g.2),
        g.5,
        subst (λ (x : FrameData). IsSubject new key auths (with_frame c x)) same next,
      );
    }

pub step_head : {A : Type 0} (a : Streaming) (s : Subject) (r : Reading) (b key auths bytes : List ℕ) → a.subject ≡ Some s → ((c : Coming) → Took a.reader c → Goes part.Head b c r) → Heard a key auths bytes → A
step_head a s r b key auths bytes e goes h =
    let by = heard_some a s key auths bytes e h in
    let g = goes by.0 by.2 in
    let is = by.3 in
    absurd (apart is.front (sym g.1 ∙ is.there))
  where
    apart : (f : SegmentFront) → None ≡ Some f → ⊥
    apart f p = cc

pub step_bad : (a : Streaming) (s : Subject) (r : Reading) (n : ℕ) (piece key auths bytes : List ℕ) → a.subject ≡ Some s → IsBytes piece → ((c : Coming) → Took a.reader c → Goes part.Bad (take n piece) c r) → Heard a key auths bytes
    → Heard (stream_of r a.begun None) key auths (bytes ++ take (length piece) piece)
step_bad a s r n piece key auths bytes e fits goes h =
    let by = heard_some a s key auths bytes e h in
    let c = by.0 in
    let g = goes by.0 by.2 in
    let st : Standing r.place r.part (with_rest c (take n piece)) = g.1 in
    let never : Never (with_rest c (take n piece)) = subst (λ (x : Stage). At x r.place r.part (with_rest c (take n piece))) g.0 st.at in
    let whole : take (length piece) piece ≡ piece = take_all (length piece) piece (omega arith) in
    let all : bytes ++ piece ≡ taken (with_rest c (take n piece)) ++ drop n piece =
    ap (λ (t : List ℕ). bytes ++ t) (sym (take-append-drop n piece)) ∙ sym (append_assoc bytes (take n piece) (drop n piece)) ∙ ap (λ (t : List ℕ). (t ++ take n piece) ++ drop n piece) by.1 ∙ ap (λ (t : List ℕ). t ++ drop n piece) (sym (taken_rest c (take n piece))) in
    let bytes_are : IsBytes (bytes ++ take (length piece) piece) = subst (λ (t : List ℕ). IsBytes (bytes ++ t)) (sym whole) (bytes_append bytes piece h.bytes_are fits) in
    record {
      bytes_are = bytes_are;
      by = λ more mf begun.
          let is : (bytes ++ take (length piece) piece) ++ more ≡ taken (with_rest c (take n piece)) ++ (drop n piece ++ more) = ap (λ (t : List ℕ). (bytes ++ t) ++ more) whole ∙ ap (λ (t : List ℕ). t ++ more) all ∙ append_assoc (taken (with_rest c (take n piece))) (drop n piece) more in
          let none : segment_in ((bytes ++ take (length piece) piece) ++ more) ≡ None = ap segment_in is ∙ never (drop n piece ++ more) (bytes_append (drop n piece) more (IsBytes-drop n piece fits) mf) in
          judged_none ((bytes ++ take (length piece) piece) ++ more) auths (bytes_append (bytes ++ take (length piece) piece) more bytes_are mf) none;
    }

-- ---- the loop

pub two_pieces : (n m : ℕ) (xs : List ℕ) → take n xs ++ take m (drop n xs) ≡ take (n + m) xs
two_pieces n m xs = rw (← take-take n (n + m) xs (omega arith), ← drop-take n m xs) (take-append-drop n (take (n + m) xs))

pub begun_is : (b : Bool) → (b ≡ false → ⊥) → b ≡ true
begun_is true f = refl
begun_is false f = absurd (f refl)
