-- A segment whose head is one is a segment for the reader of pieces, which leaves the inside of the head open.
use Rattle.std.proofs.Common.{◌≡◌, ℕ, ◌≤◌, true, nat_le, List, ◌++◌, length, Option, Some, None, refl, ap, ◌∙◌, append_assoc, arith, le-leb, sym}
use Rattle.std.specs.Int.{w32, w64}
use Rattle.avm_num.specs.Bytes.{IsBytes}
use Rattle.avm_num.specs.Lists.{be, one}
use Rattle.avm_model.specs.declared.Bell.{Bell}
use Rattle.avm_model.specs.Head.{HeadData}
use Rattle.avm_model.specs.HeadReading.{head_of}
use Rattle.avm_model.specs.Segment.{SegmentData, segment_magic, segment_front_bytes, segment_bytes, whole_segment_of}
use Rattle.avm_model.specs.Sizes.{bell_size}
use Rattle.avm_model.proofs.HeadReads.{head_read}
use Rattle.avm_model.proofs.HeadLength.{head_length}
use Rattle.avm_model.proofs.HeadBounds.{size_most}
use Rattle.avm_model.proofs.PartLengths.{middle_bytes_are}
use Rattle.seg_file.specs.Coming.{segment_in, longest_head}
use Rattle.seg_file.proofs.SegmentLaws.{whole_read}

head_bytes_are : (bytes : List ℕ) (s : SegmentData) → IsBytes bytes → bytes ≡ segment_bytes s → IsBytes s.front.head
unfolding segment_bytes segment_front_bytes
head_bytes_are bytes s fits e =
    let x = be w32 segment_magic ++ one 1 ++ be w64 s.front.start ++ s.front.before ++ be w32 (length s.front.head) in
    let regrouped : segment_bytes s ≡ x ++ (s.front.head ++ (s.pages ++ s.frames)) = simp append_assoc in
    middle_bytes_are bytes x s.front.head (s.pages ++ s.frames) fits (e ∙ regrouped)

small_bell : (o : Option Bell) → bell_size o ≤ 9
small_bell None = omega arith
small_bell (Some b) = omega arith

-- a head is no longer than one of version 2 can be
head_short : (bytes : List ℕ) (h : HeadData) → IsBytes bytes → head_of bytes ≡ Some h → length bytes ≤ longest_head
head_short bytes h fits e =
    let r = head_read bytes h fits e in
    let l = ap length r.0 in
    let bell = small_bell h.bell in
    omega (arith, l, head_length h r.1, size_most h r.2, bell)

pub in_of_whole : (bytes : List ℕ) (s : SegmentData) (h : HeadData) → IsBytes bytes → whole_segment_of bytes ≡ Some (s, h) → segment_in bytes ≡ Some s
unfolding segment_in
in_of_whole bytes s h fits e =
    let w = whole_read bytes (s, h) fits e in
    let short = head_short s.front.head h (head_bytes_are bytes s fits w.0) w.3 in
    let le : nat_le (length s.front.head) longest_head ≡ true = le-leb _ _ short in
    rw (w.2, le) refl

pub none_inside : (bytes : List ℕ) → IsBytes bytes → segment_in bytes ≡ None → whole_segment_of bytes ≡ None
none_inside bytes fits none = go (whole_segment_of bytes) refl
  where
    apart : (s : SegmentData) → None ≡ Some s → ⊥
    apart s h = cc

    go : (o : Option (SegmentData × HeadData)) → whole_segment_of bytes ≡ o → o ≡ None
    go None e = refl
    go (Some p) e = absurd (apart p.0 (sym none ∙ in_of_whole bytes p.0 p.1 fits e))
