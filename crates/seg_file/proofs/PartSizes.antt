-- The size of an entry's frame and of a front stands in its first bytes.
use Rattle.std.proofs.Common.{◌≡◌, ℕ, ◌+◌, ◌<◌, ◌^◌, List, ◌++◌, length, Some, refl, sym, ap, ◌∙◌, append_assoc, arith}
use Rattle.std.specs.Int.{w32, w64}
use Rattle.std.proofs.lemmas.List.{length-append, drop_at}
use Rattle.avm_num.specs.Lists.{be, one}
use Rattle.avm_num.specs.Sizes.{number_there}
use Rattle.avm_num.proofs.Fields.{reads_32}
use Rattle.avm_num.proofs.Lengths.{be32, be64, one1}
use Rattle.avm_num.proofs.Sizes.{Sized, map_some, map_grows}
use Rattle.avm_model.specs.Frame.{FrameData, FitsFrame, frame_at, frame_bytes}
use Rattle.avm_model.specs.Segment.{SegmentFront, FitsSegmentFront, segment_front_at, segment_front_bytes, segment_magic}
use Rattle.log_entry.proofs.FrameLaws.{reads_frame}
use Rattle.seg_file.proofs.SegmentLaws.{reads_front}
use Rattle.seg_file.specs.Coming.{front_size, frame_size}

there_spelled : (k n : ℕ) (a rest : List ℕ) → length a ≡ k → n < 2 ^ 32 → number_there k (a ++ (be w32 n ++ rest)) ≡ Some n
unfolding number_there
there_spelled k n a rest len lt = rw (drop_at a (be w32 n ++ rest) k len, reads_32.again n rest lt) refl

pub frame_length : (f : FrameData) → length (frame_bytes f) ≡ 13 + length f.content
unfolding frame_bytes
frame_length f = simp (length-append, be32, be64, one1) (omega arith)

frame_spelled : (f : FrameData) (rest : List ℕ) → FitsFrame f → frame_size (frame_bytes f ++ rest) ≡ Some (length (frame_bytes f))
unfolding frame_bytes
frame_spelled f rest fits =
    let regrouped : frame_bytes f ++ rest ≡ (be w64 f.seq ++ one f.kind) ++ (be w32 (length f.content) ++ (f.content ++ rest)) = simp append_assoc in
    let nine : length (be w64 f.seq ++ one f.kind) ≡ 9 = simp (length-append, be64, one1) refl in
    let n = there_spelled 9 (length f.content) (be w64 f.seq ++ one f.kind) (f.content ++ rest) nine fits.short in
    ap frame_size regrouped ∙ map_some 13 (length f.content) _ n ∙ ap (λ (m : ℕ). Some m) (sym (frame_length f))

pub frame_sized : Sized frame_at frame_bytes FitsFrame frame_size
frame_sized = record { laws = reads_frame; sized = frame_spelled; grows = map_grows 13 9 }

pub front_length : (f : SegmentFront) → FitsSegmentFront f → length (segment_front_bytes f) ≡ 49 + length f.head
unfolding segment_front_bytes
front_length f fits = let b = fits.before in simp (length-append, be32, be64, one1) (omega (arith, b))

front_spelled : (f : SegmentFront) (rest : List ℕ) → FitsSegmentFront f → front_size (segment_front_bytes f ++ rest) ≡ Some (length (segment_front_bytes f))
unfolding segment_front_bytes
front_spelled f rest fits =
    let regrouped : segment_front_bytes f ++ rest ≡ (be w32 segment_magic ++ one 1 ++ be w64 f.start ++ f.before) ++ (be w32 (length f.head) ++ (f.head ++ rest)) = simp append_assoc in
    let b = fits.before in
    let size : length (be w32 segment_magic ++ one 1 ++ be w64 f.start ++ f.before) ≡ 45 = simp (length-append, be32, be64, one1) (omega (arith, b)) in
    let n = there_spelled 45 (length f.head) (be w32 segment_magic ++ one 1 ++ be w64 f.start ++ f.before) (f.head ++ rest) size fits.head in
    ap front_size regrouped ∙ map_some 49 (length f.head) _ n ∙ ap (λ (m : ℕ). Some m) (sym (front_length f fits))

pub front_sized : Sized segment_front_at segment_front_bytes FitsSegmentFront front_size
front_sized = record { laws = reads_front; sized = front_spelled; grows = map_grows 49 45 }
