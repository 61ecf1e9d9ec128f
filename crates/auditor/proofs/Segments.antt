-- A segment that is read, and cut.
use Rattle.std.proofs.Common.{◌≡◌, ℕ, ◌≤◌, ◌^◌, true, List, ◌++◌, length, Some, refl, ap, subst, arith, All}
use Rattle.std.proofs.lemmas.List.{length-append}
use Rattle.avm_num.specs.Bytes.{IsBytes}
use Rattle.avm_num.specs.Lists.{list_bytes}
use Rattle.avm_num.specs.Walk.{all_at, behind_of, is_nil}
use Rattle.avm_num.proofs.Numbers.{and_true, kept_some}
use Rattle.avm_num.proofs.Walks.{all_front, all_again}
use Rattle.avm_model.specs.Frame.{FrameData, FitsFrame, frame_bytes, frame_at, frames_of}
use Rattle.avm_model.specs.Entries.{opens, are_entries}
use Rattle.avm_model.specs.Head.{HeadData}
use Rattle.avm_model.specs.HeadReading.{head_of}
use Rattle.avm_model.specs.Segment.{SegmentData, segment_front_bytes, segment_bytes, FitsSegment, whole_segment_of}
use Rattle.avm_model.specs.Audit.{entry_frames}
use Rattle.avm_model.specs.Holds.{upto, bytes_upto, cut}
use Rattle.avm_model.proofs.PartLengths.{back_bytes_are}
use Rattle.log_entry.proofs.FrameLaws.{reads_frame, frame_shortens}
use Rattle.seg_file.proofs.SegmentLaws.{whole_read, whole_again}
use Rattle.auditor.proofs.Cuts.{opens_upto, all_upto, spelled_upto}

-- what is known of a segment whose head is one
pub record Whole (s : SegmentData) (h : HeadData) : Type 0 where
  pub fits : FitsSegment s
  pub head : head_of s.front.head ≡ Some h
  pub spelled : s.frames ≡ list_bytes frame_bytes (entry_frames s)
  pub all : All FitsFrame (entry_frames s)
  pub opens_well : opens s.front.start s.front.before (entry_frames s) ≡ true

entries_are : (start : ℕ) (before bytes : List ℕ) → are_entries start before bytes ≡ true → (opens start before (frames_of bytes) ≡ true) × (is_nil (behind_of frame_at bytes) ≡ true)
unfolding are_entries
entries_are start before bytes e = let p = and_true _ _ e in (p.0, p.1)

are_read : (start : ℕ) (before bytes : List ℕ) → opens start before (frames_of bytes) ≡ true → is_nil (behind_of frame_at bytes) ≡ true → are_entries start before bytes ≡ true
unfolding are_entries
are_read start before bytes p q = rw (p, q) refl

frames_are_bytes : (s : SegmentData) → IsBytes (segment_bytes s) → IsBytes s.frames
unfolding segment_bytes
frames_are_bytes s fits = back_bytes_are (segment_front_bytes s.front ++ s.pages) s.frames fits

pub whole_of : (bytes : List ℕ) (s : SegmentData) (h : HeadData) → IsBytes bytes → whole_segment_of bytes ≡ Some (s, h) → Whole s h × (bytes ≡ segment_bytes s)
whole_of bytes s h fits e =
    let r = whole_read bytes (s, h) fits e in
    let p = entries_are s.front.start s.front.before s.frames r.1.entries in
    let inner : IsBytes s.frames = frames_are_bytes s (subst (λ (b : List ℕ). IsBytes b) r.0 fits) in
    let read : all_at frame_at s.frames ≡ Some (entry_frames s) = rw p.1 refl in
    let f = all_front frame_at frame_bytes FitsFrame reads_frame frame_shortens s.frames (entry_frames s) inner read in
    (record { fits = r.1; head = r.3; spelled = f.0; all = f.1; opens_well = p.0 }, r.0)

-- spelled frames are read
pub again_of : (gs : List FrameData) → All FitsFrame gs → (frames_of (list_bytes frame_bytes gs) ≡ gs) × (is_nil (behind_of frame_at (list_bytes frame_bytes gs)) ≡ true)
again_of gs all =
    let a = all_again frame_at frame_bytes FitsFrame reads_frame frame_shortens gs all in
    let k = kept_some (is_nil (behind_of frame_at (list_bytes frame_bytes gs))) (frames_of (list_bytes frame_bytes gs)) gs a in
    (k.1, k.0)

pub frames_again : (gs : List FrameData) → All FitsFrame gs → all_at frame_at (list_bytes frame_bytes gs) ≡ Some gs
frames_again gs all = all_again frame_at frame_bytes FitsFrame reads_frame frame_shortens gs all

pub cut_frames : (m : ℕ) (s : SegmentData) (h : HeadData) → Whole s h → entry_frames (cut m s) ≡ upto m (entry_frames s)
cut_frames m s h w = (again_of (upto m (entry_frames s)) (all_upto m (entry_frames s) w.all)).0

cut_short : (m : ℕ) (s : SegmentData) (h : HeadData) → Whole s h → length (segment_bytes (cut m s)) ≤ 2 ^ 26
unfolding segment_bytes
cut_short m s h w =
    let less = spelled_upto m (entry_frames s) in
    let same : length s.frames ≡ length (list_bytes frame_bytes (entry_frames s)) = ap length w.spelled in
    let all = simp length-append at w.fits.whole in
    simp length-append (omega (arith, less, same, all))

fits_cut : (m : ℕ) (s : SegmentData) (h : HeadData) → Whole s h → FitsSegment (cut m s)
fits_cut m s h w =
    let a = again_of (upto m (entry_frames s)) (all_upto m (entry_frames s) w.all) in
    let o : opens s.front.start s.front.before (frames_of (bytes_upto m s)) ≡ true = rw a.0 (opens_upto m s.front.start s.front.before (entry_frames s) w.opens_well) in
    record { front = w.fits.front; pages = w.fits.pages; entries = are_read s.front.start s.front.before (bytes_upto m s) o a.1; whole = cut_short m s h w }

pub cut_whole : (m : ℕ) (s : SegmentData) (h : HeadData) → Whole s h → whole_segment_of (segment_bytes (cut m s)) ≡ Some (cut m s, h)
cut_whole m s h w = whole_again (cut m s) h (fits_cut m s h w) w.head

pub cut_limit : (m : ℕ) (s : SegmentData) (h : HeadData) → Whole s h → length (segment_bytes (cut m s)) ≤ 2 ^ 26
cut_limit m s h w = cut_short m s h w
