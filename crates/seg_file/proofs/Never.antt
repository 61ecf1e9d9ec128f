-- No continuation is a segment.
use Rattle.std.proofs.Common.{◌≡◌, ℕ, ◌+◌, ◌^◌, ◌<◌, ◌≤◌, Bool, true, false, nat_le, List, ◌∷◌, ◌++◌, length, Option, Some, None, refl, sym, ap, ◌∙◌, arith}
use Rattle.std.proofs.lemmas.List.{length-append}
use Rattle.avm_num.specs.Bytes.{IsBytes, ◌>>=◌, kept}
use Rattle.avm_num.specs.Walk.{behind_of, is_nil}
use Rattle.avm_model.specs.Entries.{opens}
use Rattle.avm_model.specs.Frame.{FrameData, frame_at, frames_of}
use Rattle.avm_model.specs.Segment.{SegmentFront, SegmentData, page_count, segment_front_at, segment_front_bytes}
use Rattle.log_entry.proofs.FrameLaws.{reads_frame, frames_some, frames_behind_none}
use Rattle.log_entry.proofs.Lengths.{frame_limit}
use Rattle.seg_file.proofs.SegmentLaws.{reads_front}
use Rattle.seg_file.specs.Coming.{Coming, taken, segment_in, longest_head, front_size, frame_size}
use Rattle.seg_file.specs.Fronts.{counted_at}
use Rattle.seg_file.specs.declared.place.Place.{Place}
use Rattle.seg_file.specs.Places.{AtFront, AtEntries, Never, may_come, with_frame}
use Rattle.seg_file.proofs.PartSizes.{frame_sized, front_sized, frame_length, front_length}
use Rattle.avm_num.proofs.Sizes.{whole_some, whole_none, long_none}
use Rattle.avm_num.proofs.Lengths.{bytes_append}
use Rattle.seg_file.proofs.Continuing.{never_frame}
use Rattle.seg_file.proofs.Parsing.{has, by_none, in_none}
use Rattle.seg_file.proofs.Wholes.{taken_none, no_front, in_entries, not_nil, and_false}

-- too many bytes
pub never_limit : (c : Coming) → 2 ^ 26 < length (taken c) → Never c
never_limit c lt more fits = by_none (taken c ++ more) (λ s e le. let h = (has (taken c ++ more) s e).limit in omega (arith, h, lt, length-append (taken c) more))

-- ---- the front

at_front : (p : Place) (part more : List ℕ) (c : Coming) → AtFront p part c → taken c ++ more ≡ part ++ more
at_front p part more c at = ap (λ (t : List ℕ). t ++ more) (taken_none c at.front at.pages at.frames ∙ at.rest)

pub front_long : (p : Place) (part : List ℕ) (c : Coming) (n : ℕ) → IsBytes part → front_size part ≡ Some n → 49 + longest_head < n → AtFront p part c → Never c
front_long p part c n fits size lt at more mf = ap segment_in (at_front p part more c at) ∙ by_none (part ++ more) (λ s e le. go s (has (part ++ more) s e).behind (has (part ++ more) s e).front le)
  where
    go : (s : SegmentData) (behind : List ℕ) → segment_front_at (part ++ more) ≡ Some (s.front, behind) → length s.front.head ≤ longest_head → ⊥
    go s behind e le =
        let f = reads_front.front (part ++ more) (s.front, behind) (bytes_append part more fits mf) e in
        let k : front_size (part ++ more) ≡ Some (length (segment_front_bytes s.front)) = ap front_size f.0.parts ∙ front_sized.sized s.front behind f.1 in
        let m : length (segment_front_bytes s.front) ≡ n = same _ _ (sym k ∙ front_sized.grows part more n size) in
        omega (arith, m, lt, le, front_length s.front f.1)
      where
        same : (a b : ℕ) → ◌≡◌ {A = Option ℕ} (Some a) (Some b) → a ≡ b
        same a b h = cc

abbrev counts_of : SegmentFront → Option (ℕ × List ℕ) → Option (SegmentFront × ℕ)
counts_of f r = r >>= λ (n : ℕ × List ℕ). let p : SegmentFront × ℕ = (f, n.0) in Some p

pub front_never : (p : Place) (part : List ℕ) (c : Coming) → IsBytes part → front_size part ≡ Some (length part) → counted_at part ≡ None → AtFront p part c → Never c
unfolding counted_at
front_never p part c fits size none at more mf = ap segment_in (at_front p part more c at) ∙ go (segment_front_at part) refl none
  where
    some_front : (x y : SegmentFront × List ℕ) → Some x ≡ Some y → x.0 ≡ y.0
    some_front x y h = let q : x ≡ y = cc in ap (λ (z : SegmentFront × List ℕ). z.0) q

    apart : (x : ℕ × List ℕ) → None ≡ Some x → ⊥
    apart x h = cc

    counts : (f : SegmentFront × List ℕ) → segment_front_at part ≡ Some f → counts_of f.0 (page_count f.0.head) ≡ None → segment_in (part ++ more) ≡ None
    counts f e none = next (page_count f.0.head) refl none
      where
        next : (r : Option (ℕ × List ℕ)) → page_count f.0.head ≡ r → counts_of f.0 r ≡ None → segment_in (part ++ more) ≡ None
        next (Some n) i h = absurd cc
        next None i h =
            let w = whole_some front_sized part f fits size e in
            let again : segment_front_at (part ++ more) ≡ Some (f.0, more) = ap (λ (t : List ℕ). segment_front_at (t ++ more)) w.0 ∙ reads_front.again f.0 more w.1 in
            by_none (part ++ more) (λ s q le.
            let z = has (part ++ more) s q in
            let is : s.front ≡ f.0 = some_front (s.front, z.behind) (f.0, more) (sym z.front ∙ again) in
            apart z.count.0 (sym i ∙ ap (λ (x : SegmentFront). page_count x.head) (sym is) ∙ z.count.1))

    go : (r : Option (SegmentFront × List ℕ)) → segment_front_at part ≡ r → (r >>= λ (f : SegmentFront × List ℕ). counts_of f.0 (page_count f.0.head)) ≡ None → segment_in (part ++ more) ≡ None
    go None e h = no_front (part ++ more) (whole_none front_sized part more (bytes_append part more fits mf) size e)
    go (Some f) e h = counts f e h

-- ---- an entry

no_frame : (p : Place) (part more : List ℕ) (c : Coming) → 0 < length part → frame_at (part ++ more) ≡ None → AtEntries p part c → segment_in (taken c ++ more) ≡ None
no_frame p part more c lt none at =
    let long : 0 < length (part ++ more) = omega (arith, lt, length-append part more) in
    let behind : is_nil (behind_of frame_at (part ++ more)) ≡ false = ap is_nil (frames_behind_none (part ++ more) none) ∙ not_nil (part ++ more) long in
    in_none (taken c ++ more)
    (in_entries p part c more at ∙ rw (behind, and_false (opens p.start p.before.0 (c.frames ++ frames_of (part ++ more))), and_false (nat_le (length (taken c ++ more)) (2 ^ 26))) refl)

pub frame_long : (p : Place) (part : List ℕ) (c : Coming) (n : ℕ) → IsBytes part → 0 < length part → frame_size part ≡ Some n → 24589 < n → AtEntries p part c → Never c
frame_long p part c n fits some size lt at more mf =
    no_frame p part more c some (long_none frame_sized part more n 24589 (λ f h. let l = frame_limit f h in omega (arith, l, frame_length f)) (bytes_append part more fits mf) size lt) at

pub frame_never : (p : Place) (part : List ℕ) (c : Coming) → IsBytes part → 0 < length part → frame_size part ≡ Some (length part)
    → (frame_at part >>= λ (q : FrameData × List ℕ). kept (may_come p q.0) (with_frame p q.0)) ≡ None → AtEntries p part c → Never c
frame_never p part c fits some size none at more mf = go (frame_at part) refl none
  where
    may_not : (b : Bool) (x : Place) → kept b x ≡ None → b ≡ false
    may_not true x h = absurd cc
    may_not false x h = refl

    go : (r : Option (FrameData × List ℕ)) → frame_at part ≡ r → (r >>= λ (q : FrameData × List ℕ). kept (may_come p q.0) (with_frame p q.0)) ≡ None → segment_in (taken c ++ more) ≡ None
    go None e h = no_frame p part more c some (whole_none frame_sized part more (bytes_append part more fits mf) size e) at
    go (Some q) e h =
        let w = whole_some frame_sized part q fits size e in
        let again : frame_at (part ++ more) ≡ Some (q.0, more) = ap (λ (t : List ℕ). frame_at (t ++ more)) w.0 ∙ reads_frame.again q.0 more w.1 in
        let frames : frames_of (part ++ more) ≡ q.0 ∷ frames_of more = frames_some (part ++ more) (q.0, more) again in
        let not : opens p.start p.before.0 (c.frames ++ frames_of (part ++ more)) ≡ false = ap (λ (fs : List FrameData). opens p.start p.before.0 (c.frames ++ fs)) frames ∙ never_frame p c.frames q.0 (frames_of more) at.follows (may_not (may_come p q.0) (with_frame p q.0) h) in
        in_none (taken c ++ more) (in_entries p part c more at ∙ rw (not, and_false (nat_le (length (taken c ++ more)) (2 ^ 26))) refl)
