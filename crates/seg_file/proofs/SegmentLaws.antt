-- A segment that is read is spelled so and fits; what fits and is spelled is read again.
use Rattle.std.proofs.Common.{◌≡◌, ◌≤◌, ◌^◌, ◌*◌, ℕ, true, ◌&&◌, leb, nat_le, List, ◌++◌, length, Option, Some, None, refl, sym, ap, subst, ◌∙◌, append_assoc, arith, leb-true, le-leb, IfSome, IfNone, option_map}
use Rattle.std.specs.Int.{w32, w64}
use Rattle.avm_num.specs.Bytes.{IsBytes, piece_at}
use Rattle.avm_num.proofs.Numbers.{bind_some, kept_some, and_true}
use Rattle.avm_num.specs.Lists.{be, one, sized_bytes}
use Rattle.avm_num.proofs.Fields.{Reads, start, next, ends, goes, reads_32, reads_64, reads_byte, reads_piece, reads_exact, reads_sized}
use Rattle.avm_model.specs.Entries.{are_entries}
use Rattle.seg_file.specs.declared.front.Segment.{Segment}
use Rattle.seg_file.specs.Views.{segment_view}
use Rattle.avm_model.specs.Segment.{SegmentFront, SegmentData, segment_magic, segment_front_bytes, segment_bytes, page_count, FitsSegmentFront, FitsSegment, segment_front_at, segment_of, whole_segment_of}
use Rattle.avm_model.specs.Head.{HeadData}
use Rattle.avm_model.specs.HeadReading.{head_of}

pub reads_front : Reads segment_front_at segment_front_bytes FitsSegmentFront
unfolding segment_front_at segment_front_bytes
reads_front = record {
  front = λ bytes p fits e.
      let a = next (reads_exact reads_32 segment_magic (omega arith)) bytes _ _ (start bytes fits) _ p e in
      let b = next (reads_exact reads_byte 1 tt) bytes _ _ a.1 _ p a.3 in
      let c = next reads_64 bytes _ _ b.1 _ p b.3 in
      let d = next (reads_piece 32) bytes _ _ c.1 _ p c.3 in
      let f = next (reads_sized reads_32) bytes _ _ d.1 _ p d.3 in
      ends segment_front_bytes FitsSegmentFront bytes _ p f.3 f.1 (record { start = c.2; before = d.2; head = f.2 });
  again = λ x rest fits.
      let regrouped : segment_front_bytes x ++ rest ≡ be w32 segment_magic ++ (one 1 ++ (be w64 x.start ++ (x.before ++ (sized_bytes (be w32) x.head ++ rest)))) = simp append_assoc in
      ap segment_front_at regrouped ∙ goes (reads_exact reads_32 segment_magic (omega arith)) tt _ _ tt ∙ goes (reads_exact reads_byte 1 tt) tt _ _ tt ∙ goes reads_64 x.start _ _ fits.start ∙ goes (reads_piece 32) x.before _ _ fits.before ∙ goes (reads_sized reads_32) x.head _ _ fits.head;
}

abbrev IsRead : List ℕ → SegmentData → Type 0
IsRead bytes s = (bytes ≡ segment_bytes s) × FitsSegment s

pub segment_read : (bytes : List ℕ) (s : SegmentData) → IsBytes bytes → segment_of bytes ≡ Some s → IsRead bytes s
unfolding segment_of segment_bytes
segment_read bytes s fits e =
    let a = next reads_front bytes _ _ (start bytes fits) _ s e in
    let n = bind_some (page_count a.0.0.head) _ s a.3 in
    let b = next (reads_piece (4096 * n.0.0)) bytes _ _ a.1 _ s n.2 in
    let k = kept_some _ _ s b.3 in
    let t = and_true _ _ k.0 in
    let whole : bytes ≡ segment_bytes (record { front = a.0.0; pages = b.0.0; frames = b.0.1 }) = b.1.parts in
    let short : length bytes ≤ 2 ^ 26 = leb-true _ _ t.0 in
    subst (λ (q : SegmentData). IsRead bytes q) k.1
    (whole, record { front = a.2; pages = (n.0.0, n.0.1, n.1, b.2); entries = t.1; whole = subst (λ (x : List ℕ). length x ≤ 2 ^ 26) whole short })

-- the parts one after another
fields : (bytes behind pages rest left : List ℕ) (front : SegmentFront) (n : ℕ) → segment_front_at bytes ≡ Some (front, behind) → page_count front.head ≡ Some (n, left) → piece_at (4096 * n) behind ≡ Some (pages, rest)
    → (nat_le (length bytes) (2 ^ 26) && are_entries front.start front.before rest) ≡ true → segment_of bytes ≡ Some (record { front = front; pages = pages; frames = rest })
unfolding segment_of
fields bytes behind pages rest left front n a b c d = rw (a, b, c, d) refl

pub segment_again : (s : SegmentData) → FitsSegment s → segment_of (segment_bytes s) ≡ Some s
unfolding segment_bytes
segment_again s fits =
    let regrouped : segment_bytes s ≡ segment_front_bytes s.front ++ (s.pages ++ s.frames) = append_assoc (segment_front_bytes s.front) s.pages s.frames in
    let short : leb (length (segment_bytes s)) (2 ^ 26) ≡ true = le-leb _ _ fits.whole in
    let p = fits.pages in
    fields (segment_bytes s) (s.pages ++ s.frames) s.pages s.frames p.1 s.front p.0 (ap segment_front_at regrouped ∙ reads_front.again s.front (s.pages ++ s.frames) fits.front) p.2
    ((reads_piece (4096 * p.0)).again s.pages s.frames p.3) (rw (short, fits.entries) refl)

-- ---- with the inside of the head

pub whole_read : (bytes : List ℕ) (p : SegmentData × HeadData) → IsBytes bytes → whole_segment_of bytes ≡ Some p → (bytes ≡ segment_bytes p.0) × FitsSegment p.0 × (segment_of bytes ≡ Some p.0) × (head_of p.0.front.head ≡ Some p.1)
unfolding whole_segment_of
whole_read bytes p fits e =
    let a = bind_some (segment_of bytes) _ p e in
    let b = bind_some (head_of a.0.front.head) _ p a.2 in
    let r = segment_read bytes a.0 fits a.1 in
    let same : (a.0, b.0) ≡ p = cc in
    subst (λ (q : SegmentData × HeadData). (bytes ≡ segment_bytes q.0) × FitsSegment q.0 × (segment_of bytes ≡ Some q.0) × (head_of q.0.front.head ≡ Some q.1)) same (r.0, r.1, a.1, b.1)

pub whole_again : (s : SegmentData) (h : HeadData) → FitsSegment s → head_of s.front.head ≡ Some h → whole_segment_of (segment_bytes s) ≡ Some (s, h)
unfolding whole_segment_of
whole_again s h fits e = rw (segment_again s fits, e) refl

-- ---- the clauses of a reader

pub found : (r : Option Segment) (bytes : List ℕ) → IsBytes bytes → option_map segment_view r ≡ segment_of bytes → IfSome r (λ s. (bytes ≡ segment_bytes (segment_view s)) × FitsSegment (segment_view s))
found None bytes fits e = tt
found (Some s) bytes fits e = segment_read bytes (segment_view s) fits (sym e)

pub none : (r : Option Segment) (bytes : List ℕ) → option_map segment_view r ≡ segment_of bytes → IfNone r ((s : SegmentData) → FitsSegment s → bytes ≡ segment_bytes s → ⊥)
none (Some s) bytes e = tt
none None bytes e = λ s fits is. let a = segment_again s fits in let b : segment_of bytes ≡ segment_of (segment_bytes s) = ap segment_of is in cc
