-- A part more of a stream beside an image.
use Rattle.std.proofs.Common.{◌≡◌, ℕ, ◌+◌, ◌*◌, ◌&&◌, Bool, true, false, List, [], ◌++◌, length, take, drop, Option, Some, None, is_some, refl, sym, ap, subst, ◌∙◌, append_assoc, append-nil, arith}
use Rattle.std.specs.Prelude.{MatchBool}
use Rattle.std.proofs.lemmas.List.{take-append-drop, take_all, take-take, drop-take}
use Rattle.avm_num.specs.Bytes.{IsBytes}
use Rattle.avm_num.proofs.Numbers.{IsBytes-drop, IsBytes-take}
use Rattle.std.specs.Str.{bytes_eq}
use Rattle.avm_num.proofs.Lengths.{bytes_append}
use Rattle.avm_model.specs.Audit.{entry_frames}
use Rattle.avm_model.specs.Frame.{FrameData, FitsFrame, frame_bytes}
use Rattle.avm_model.specs.Head.{HeadData}
use Rattle.avm_model.specs.HeadReading.{head_of}
use Rattle.avm_model.specs.HeadState.{state_of}
use Rattle.avm_model.specs.ImageState.{is_image_of}
use Rattle.avm_model.specs.Machine.{MachineState}
use Rattle.avm_model.specs.Segment.{SegmentFront, SegmentData, FitsSegmentFront, segment_front_bytes, segment_of, whole_segment_of}
use Rattle.avm_model.proofs.ImageLaws.{image_from, image_to}
use Rattle.avm_model.proofs.SegmentPages.{has_pages}
use Rattle.boot_image.specs.Begins.{BeginsAs, is_boot_first}
use Rattle.boot_image.proofs.Begun.{whole_some}
use Rattle.seg_file.specs.Coming.{Coming, nothing, taken, with_rest, with_front, with_page, with_frame, segment_in}
use Rattle.seg_file.specs.Places.{At, Never, Standing}
use Rattle.seg_file.specs.Reading.{Reading, Took, Goes, IsRead}
use Rattle.seg_file.specs.declared.filling.Part.TheVariants as part
use Rattle.seg_file.specs.declared.place.Stage.{Stage}
use Rattle.seg_file.specs.declared.place.Stage.TheVariants as stage
use Rattle.seg_file.proofs.Inside.{none_inside}
use Rattle.seg_file.proofs.Steps.{taken_rest, taken_page, taken_frame}
use Rattle.boot_stream.specs.Booting.{BootsAs, IsSame, IsSeen, SawBy, Saw, first_kind, is_boot}
use Rattle.boot_stream.specs.declared.compared.Compared.{Compared}
use Rattle.boot_stream.specs.declared.stream.BootStream.{BootStream}
use Rattle.boot_stream.proofs.Booted.{same_start}
use Rattle.boot_stream.proofs.Coming.{all_pages, boot_first}

abbrev pub stream_of : BootStream → Reading → Option Compared → Bool → BootStream
stream_of b r k o = record { reader = r; image = b.image; compared = k; live = o }

saw_open : (b : BootStream) (image bytes : List ℕ) → b.live ≡ true → Saw b image bytes → (c : Coming) × (bytes ≡ taken c) × Took b.reader c × IsSeen b.compared image c
saw_open b image bytes e s = subst (λ (o : Bool). SawBy o b image bytes) e s.by

seen_rest : (k : Option Compared) (image t : List ℕ) (c : Coming) → IsSeen k image c → IsSeen k image (with_rest c t)
seen_rest None image t c s = s
seen_rest (Some k) image t c s = s

pub step_more : (b : BootStream) (r : Reading) (t image bytes : List ℕ) → b.live ≡ true → IsBytes t → ((c : Coming) → Took b.reader c → Goes part.More t c r) → Saw b image bytes → Saw (stream_of b r b.compared true) image (bytes ++ t)
step_more b r t image bytes e fits goes s =
    let by = saw_open b image bytes e s in
    let g = goes by.0 by.2 in
    record {
      bytes_are = bytes_append bytes t s.bytes_are fits;
      image_is = s.image_is;
      by = (with_rest by.0 t, ap (λ (x : List ℕ). x ++ t) by.1 ∙ sym (taken_rest by.0 t), g.1, seen_rest b.compared image t by.0 by.3);
    }

pub step_page : (b : BootStream) (r : Reading) (new : Option Compared) (i : ℕ) (t page image bytes : List ℕ) → b.live ≡ true → IsBytes t → ((c : Coming) → Took b.reader c → Goes (part.Page i) t c r) → page ≡ r.last
    → ((image : List ℕ) (c : Coming) → length c.pages ≡ 4096 * i → c.frames ≡ [] → IsSeen b.compared image c → IsSeen new image (with_page c page)) → Saw b image bytes → Saw (stream_of b r new true) image (bytes ++ t)
step_page b r new i t page image bytes e fits goes held more s =
    let by = saw_open b image bytes e s in
    let c = by.0 in
    let g = goes by.0 by.2 in
    let same : page ≡ c.rest ++ t = held ∙ g.3 in
    record {
      bytes_are = bytes_append bytes t s.bytes_are fits;
      image_is = s.image_is;
      by = (
        with_page c (c.rest ++ t),
        ap (λ (x : List ℕ). x ++ t) by.1 ∙ sym (taken_rest c t) ∙ sym (taken_page (with_rest c t) (c.rest ++ t) g.1 refl),
        g.5,
        subst (λ (x : List ℕ). IsSeen new image (with_page c x)) same (more image c g.0 g.1 by.3),
      );
    }

pub step_frame : (b : BootStream) (r : Reading) (new : Option Compared) (f : FrameData) (t image bytes : List ℕ) → b.live ≡ true → IsBytes t → ((c : Coming) → Took b.reader c → Goes part.Frame t c r) → ((g : FrameData) → FitsFrame g → r.last ≡ frame_bytes g → f ≡ g)
    → ((image : List ℕ) (c : Coming) (g : FrameData) → g.kind ≡ f.kind → IsSeen b.compared image c → IsSeen new image (with_frame c g)) → Saw b image bytes → Saw (stream_of b r new true) image (bytes ++ t)
step_frame b r new f t image bytes e fits goes held more s =
    let by = saw_open b image bytes e s in
    let c = by.0 in
    let g = goes by.0 by.2 in
    let same : f ≡ g.0 = held g.0 g.1 g.3 in
    record {
      bytes_are = bytes_append bytes t s.bytes_are fits;
      image_is = s.image_is;
      by = (
        with_frame c g.0,
        ap (λ (x : List ℕ). x ++ t) by.1 ∙ sym (taken_rest c t) ∙ sym (taken_frame (with_rest c t) g.0 g.2),
        g.5,
        more image c g.0 (ap (λ (x : FrameData). x.kind) (sym same)) by.3,
      );
    }

-- before a front nothing has come
front_first : (r : Reading) (c : Coming) → (r.place.stage ≡ stage.Bad → ⊥) → c.front ≡ None → Took r c → (c.pages ≡ []) × (c.frames ≡ [])
front_first r c live none st = go r.place.stage refl st.at
  where
    apart : (f : SegmentFront) → None ≡ Some f → ⊥
    apart f e = cc

    go : (s : Stage) → r.place.stage ≡ s → At s r.place r.part c → (c.pages ≡ []) × (c.frames ≡ [])
    go stage.Front e at = (at.pages, at.frames)
    go (stage.Page i) e at = absurd (apart at.head (sym none ∙ at.front))
    go stage.Entries e at = absurd (apart at.head (sym none ∙ at.front))
    go stage.Bad e at = absurd (live e)

taken_first : (c : Coming) (t : List ℕ) (f : SegmentFront) → c.front ≡ None → c.pages ≡ [] → c.frames ≡ [] → c.rest ++ t ≡ segment_front_bytes f → taken c ++ t ≡ taken (with_front f)
unfolding taken
taken_first c t f front pages frames is = rw (front, pages, frames) (is ∙ sym (append-nil (segment_front_bytes f)))

pub step_head : (b : BootStream) (r : Reading) (k : Compared) (t head image bytes : List ℕ) → b.live ≡ true → IsBytes t → (b.reader.place.stage ≡ stage.Bad → ⊥) → ((c : Coming) → Took b.reader c → Goes part.Head t c r)
    → ((f : SegmentFront) → FitsSegmentFront f → r.last ≡ segment_front_bytes f → head ≡ f.head) → BootsAs k.machine b.image.now head → k.same ≡ is_some k.machine → k.first ≡ None → Saw b image bytes → Saw (stream_of b r (Some k) true) image (bytes ++ t)
step_head b r k t head image bytes e fits live goes held boots same first s =
    let by = saw_open b image bytes e s in
    let c = by.0 in
    let g = goes by.0 by.2 in
    let f = g.0 in
    let nothing = front_first b.reader c live g.1 by.2 in
    let named : head ≡ f.head = held f g.4.fits g.3 in
    let own : BootsAs k.machine image f.head = subst (λ (x : List ℕ). BootsAs k.machine x f.head) s.image_is (subst (λ (x : List ℕ). BootsAs k.machine b.image.now x) named boots) in
    record {
      bytes_are = bytes_append bytes t s.bytes_are fits;
      image_is = s.image_is;
      by = (
        with_front f,
        ap (λ (x : List ℕ). x ++ t) by.1 ∙ taken_first c t f g.1 nothing.0 nothing.1 g.2,
        g.5,
        (f, refl, own, same_start k.machine k.same same, first),
      );
    }

pub step_bad : (b : BootStream) (r : Reading) (n : ℕ) (piece image bytes : List ℕ) → b.live ≡ true → IsBytes piece → ((c : Coming) → Took b.reader c → Goes part.Bad (take n piece) c r) → Saw b image bytes → Saw (stream_of b r b.compared false) image (bytes ++ take (length piece) piece)
step_bad b r n piece image bytes e fits goes s =
    let by = saw_open b image bytes e s in
    let c = by.0 in
    let g = goes by.0 by.2 in
    let st : Standing r.place r.part (with_rest c (take n piece)) = g.1 in
    let never : Never (with_rest c (take n piece)) = subst (λ (x : Stage). At x r.place r.part (with_rest c (take n piece))) g.0 st.at in
    let whole : take (length piece) piece ≡ piece = take_all (length piece) piece (omega arith) in
    let all : bytes ++ piece ≡ taken (with_rest c (take n piece)) ++ drop n piece =
    ap (λ (x : List ℕ). bytes ++ x) (sym (take-append-drop n piece)) ∙ sym (append_assoc bytes (take n piece) (drop n piece)) ∙ ap (λ (x : List ℕ). (x ++ take n piece) ++ drop n piece) by.1 ∙ ap (λ (x : List ℕ). x ++ drop n piece) (sym (taken_rest c (take n piece))) in
    let bytes_are : IsBytes (bytes ++ take (length piece) piece) = subst (λ (x : List ℕ). IsBytes (bytes ++ x)) (sym whole) (bytes_append bytes piece s.bytes_are fits) in
    record {
      bytes_are = bytes_are;
      image_is = s.image_is;
      by = λ more mf.
          let is : (bytes ++ take (length piece) piece) ++ more ≡ taken (with_rest c (take n piece)) ++ (drop n piece ++ more) = ap (λ (x : List ℕ). (bytes ++ x) ++ more) whole ∙ ap (λ (x : List ℕ). x ++ more) all ∙ append_assoc (taken (with_rest c (take n piece))) (drop n piece) more in
          let none : segment_in ((bytes ++ take (length piece) piece) ++ more) ≡ None = ap segment_in is ∙ never (drop n piece ++ more) (bytes_append (drop n piece) more (IsBytes-drop n piece fits) mf) in
          none_inside ((bytes ++ take (length piece) piece) ++ more) (bytes_append (bytes ++ take (length piece) piece) more bytes_are mf) none;
    }

-- it stays open
pub reopened : (b : BootStream) (r : Reading) (k : Option Compared) (image bytes : List ℕ) → b.live ≡ true → Saw (stream_of b r k true) image bytes → Saw (stream_of b r k b.live) image bytes
reopened b r k image bytes e s = subst (λ (o : Bool). Saw (stream_of b r k o) image bytes) (sym e) s

pub taken_nothing : [] ≡ taken nothing
unfolding taken
taken_nothing = refl

-- nothing can come of it any more
pub step_closed : (b : BootStream) (piece image bytes : List ℕ) → b.live ≡ false → IsBytes piece → Saw b image bytes → Saw b image (bytes ++ take (length piece) piece)
step_closed b piece image bytes e fits s =
    let never : (more : List ℕ) → IsBytes more → whole_segment_of (bytes ++ more) ≡ None = subst (λ (o : Bool). SawBy o b image bytes) e s.by in
    let whole : take (length piece) piece ≡ piece = take_all (length piece) piece (omega arith) in
    let bytes_are : IsBytes (bytes ++ take (length piece) piece) = subst (λ (x : List ℕ). IsBytes (bytes ++ x)) (sym whole) (bytes_append bytes piece s.bytes_are fits) in
    let closed : SawBy false b image (bytes ++ take (length piece) piece) = λ more mf.
    ap (λ (x : List ℕ). whole_segment_of ((bytes ++ x) ++ more)) whole ∙ ap whole_segment_of (append_assoc bytes piece more) ∙ never (piece ++ more) (bytes_append piece more fits mf) in
    record { bytes_are = bytes_are; image_is = s.image_is; by = subst (λ (o : Bool). SawBy o b image (bytes ++ take (length piece) piece)) (sym e) closed }

-- ---- the end

not_none : (image : List ℕ) (o : Option (SegmentData × HeadData)) → o ≡ None → BeginsAs image o → ⊥
not_none image None e begins = begins
not_none image (Some s) e begins = cc

none_begins : (image bytes : List ℕ) (r : Bool) → r ≡ false → whole_segment_of bytes ≡ None → MatchBool r (BeginsAs image (whole_segment_of bytes)) (BeginsAs image (whole_segment_of bytes) → ⊥)
none_begins image bytes r e none = subst (λ (b : Bool). MatchBool b (BeginsAs image (whole_segment_of bytes)) (BeginsAs image (whole_segment_of bytes) → ⊥)) (sym e) (not_none image (whole_segment_of bytes) none)

pub closed_begins : (b : BootStream) (image bytes : List ℕ) (r : Bool) → b.live ≡ false → r ≡ false → Saw b image bytes → MatchBool r (BeginsAs image (whole_segment_of bytes)) (BeginsAs image (whole_segment_of bytes) → ⊥)
closed_begins b image bytes r e is s =
    let never : (more : List ℕ) → IsBytes more → whole_segment_of (bytes ++ more) ≡ None = subst (λ (o : Bool). SawBy o b image bytes) e s.by in
    none_begins image bytes r is (ap whole_segment_of (sym (append-nil bytes)) ∙ never [] (IsBytes-take 0 bytes s.bytes_are))

not_some : {A : Type 0} (o : Option A) → false ≡ is_some o → o ≡ None
not_some None e = refl
not_some (Some x) e = absurd cc

pub part_begins : (b : BootStream) (image bytes : List ℕ) (r : Bool) → b.live ≡ true → r ≡ false → ((c : Coming) → Took b.reader c → false ≡ is_some (segment_in (taken c))) → Saw b image bytes → MatchBool r (BeginsAs image (whole_segment_of bytes)) (BeginsAs image (whole_segment_of bytes) → ⊥)
part_begins b image bytes r e is part s =
    let by = saw_open b image bytes e s in
    let none : segment_in bytes ≡ None = ap segment_in by.1 ∙ not_some (segment_in (taken by.0)) (part by.0 by.2) in
    none_begins image bytes r is (none_inside bytes s.bytes_are none)

apart_front : (f : SegmentFront) → None ≡ Some f → ⊥
apart_front f e = cc

one_front : (x y : SegmentFront) → Some x ≡ Some y → x ≡ y
one_front x y e = cc

pub unseen_begins : {A : Type 0} (b : BootStream) (image bytes : List ℕ) → b.live ≡ true → b.compared ≡ None → ((c : Coming) → Took b.reader c → IsRead c) → Saw b image bytes → A
unseen_begins b image bytes e none read s =
    let by = saw_open b image bytes e s in
    let seen : IsSeen None image by.0 = subst (λ (k : Option Compared). IsSeen k image by.0) none by.3 in
    let is = read by.0 by.2 in
    absurd (apart_front is.segment.front (sym seen ∙ is.front))

by_tests : (s f : Bool) (image : List ℕ) (d : SegmentData) (h : HeadData) → is_image_of (state_of h d.pages) image ≡ s → is_boot_first (entry_frames d) ≡ f → MatchBool (s && f) (BeginsAs image (Some (d, h))) (BeginsAs image (Some (d, h)) → ⊥)
by_tests true true image d h is first = (first, image_from (state_of h d.pages) image is)
by_tests true false image d h is first = λ begins. let no : false ≡ true = sym first ∙ begins.0 in cc
by_tests false f image d h is first = λ begins. let no : false ≡ true = sym is ∙ image_to (state_of h d.pages) image begins.1 in cc

headless : (bytes : List ℕ) (d : SegmentData) → segment_of bytes ≡ Some d → head_of d.front.head ≡ None → whole_segment_of bytes ≡ None
unfolding whole_segment_of
headless bytes d s e = rw (s, e) refl

-- what a segment that is whole says
with_head : (k : Compared) (m : Option MachineState) (image bytes : List ℕ) (c : Coming) (f : SegmentFront) (read : IsRead c) → bytes ≡ taken c → f ≡ read.segment.front → BootsAs m image f.head → IsSame m k.same c.pages → k.first ≡ first_kind c.frames
    → (o : Option HeadData) → head_of read.segment.front.head ≡ o → MatchBool (k.same && is_boot k.first) (BeginsAs image (whole_segment_of bytes)) (BeginsAs image (whole_segment_of bytes) → ⊥)
with_head k None image bytes c f read is front boots same first None e =
    let none : whole_segment_of bytes ≡ None = ap whole_segment_of is ∙ headless (taken c) read.segment read.is e in
    none_begins image bytes (k.same && is_boot k.first) (rw same refl) none
with_head k None image bytes c f read is front boots same first (Some h) e =
    let d = read.segment in
    let whole : whole_segment_of bytes ≡ Some (d, h) = ap whole_segment_of is ∙ whole_some (taken c) d h (sym read.is) e in
    let size = (has_pages bytes d h whole).size in
    let test : is_image_of (state_of h d.pages) image ≡ false = boots h (ap (λ (x : SegmentFront). head_of x.head) front ∙ e) d.pages size in
    let all : MatchBool (false && is_boot_first (entry_frames d)) (BeginsAs image (Some (d, h))) (BeginsAs image (Some (d, h)) → ⊥) = by_tests false (is_boot_first (entry_frames d)) image d h test refl in
    let own : MatchBool (k.same && is_boot k.first) (BeginsAs image (Some (d, h))) (BeginsAs image (Some (d, h)) → ⊥) = rw same all in
    subst (λ (x : Option (SegmentData × HeadData)). MatchBool (k.same && is_boot k.first) (BeginsAs image x) (BeginsAs image x → ⊥)) (sym whole) own
with_head k (Some m) image bytes c f read is front boots same first None e =
    absurd (let none : ◌≡◌ {A = Option HeadData} None (Some boots.0) = sym e ∙ ap (λ (x : SegmentFront). head_of x.head) (sym front) ∙ boots.1 in cc)
with_head k (Some m) image bytes c f read is front boots same first (Some g) e =
    let d = read.segment in
    let h = boots.0 in
    let at : head_of d.front.head ≡ Some h = ap (λ (x : SegmentFront). head_of x.head) (sym front) ∙ boots.1 in
    let whole : whole_segment_of bytes ≡ Some (d, h) = ap whole_segment_of is ∙ whole_some (taken c) d h (sym read.is) at in
    let size = (has_pages bytes d h whole).size in
    let len : length m.state.ram ≡ length c.pages = boots.2 ∙ sym size ∙ ap (λ (x : List ℕ). length x) read.pages in
    let test : is_image_of (state_of h d.pages) image ≡ k.same = boots.3 d.pages size ∙ ap (λ (x : List ℕ). bytes_eq x m.state.ram) read.pages ∙ all_pages k.same m.state.ram c.pages len same in
    let boot : is_boot_first (entry_frames d) ≡ is_boot k.first = ap is_boot_first read.frames ∙ sym (boot_first c.frames) ∙ ap is_boot (sym first) in
    subst (λ (x : Option (SegmentData × HeadData)). MatchBool (k.same && is_boot k.first) (BeginsAs image x) (BeginsAs image x → ⊥)) (sym whole) (by_tests k.same (is_boot k.first) image d h test boot)

pub seen_begins : (b : BootStream) (k : Compared) (image bytes : List ℕ) (r : Bool) → b.live ≡ true → b.compared ≡ Some k → ((c : Coming) → Took b.reader c → IsRead c) → r ≡ (k.same && is_boot k.first) → Saw b image bytes → MatchBool r (BeginsAs image (whole_segment_of bytes)) (BeginsAs image (whole_segment_of bytes) → ⊥)
seen_begins b k image bytes r e there read is s =
    let by = saw_open b image bytes e s in
    let seen : IsSeen (Some k) image by.0 = subst (λ (o : Option Compared). IsSeen o image by.0) there by.3 in
    let whole = read by.0 by.2 in
    let front : seen.0 ≡ whole.segment.front = one_front seen.0 whole.segment.front (sym seen.1 ∙ whole.front) in
    subst (λ (x : Bool). MatchBool x (BeginsAs image (whole_segment_of bytes)) (BeginsAs image (whole_segment_of bytes) → ⊥)) (sym is) (with_head k k.machine image bytes by.0 seen.0 whole by.1 front seen.2 seen.3 seen.4 (head_of whole.segment.front.head) refl)

-- ---- the loop

pub two_pieces : (n m : ℕ) (xs : List ℕ) → take n xs ++ take m (drop n xs) ≡ take (n + m) xs
two_pieces n m xs = rw (← take-take n (n + m) xs (omega arith), ← drop-take n m xs) (take-append-drop n (take (n + m) xs))

pub no_bytes : IsBytes []
no_bytes i = omega arith
