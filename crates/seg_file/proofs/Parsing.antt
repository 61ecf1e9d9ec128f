-- What a segment is whose parts are spelled one after another.
use Rattle.std.proofs.Common.{◌≡◌, ℕ, ◌*◌, ◌^◌, ◌<◌, ◌≤◌, ◌&&◌, nat_le, List, ◌++◌, length, Option, Some, None, refl, sym, ap, subst, ◌∙◌, append_assoc, lt-ltb, leb-true}
use Rattle.avm_num.specs.Bytes.{piece_at, kept}
use Rattle.avm_num.specs.Lists.{list_bytes}
use Rattle.avm_num.proofs.Numbers.{bind_some, kept_some, and_true}
use Rattle.avm_num.proofs.Fields.{reads_piece}
use Rattle.avm_model.specs.Entries.{are_entries}
use Rattle.avm_model.specs.Frame.{frame_bytes}
use Rattle.avm_model.specs.Segment.{SegmentFront, SegmentData, FitsSegmentFront, page_count, segment_front_bytes, segment_front_at, segment_of}
use Rattle.seg_file.proofs.SegmentLaws.{reads_front}
use Rattle.seg_file.specs.Coming.{Coming, taken, front_part, segment_in, longest_head}

pub taken_front : (c : Coming) (f : SegmentFront) (x : List ℕ) → c.front ≡ Some f → taken c ++ x ≡ segment_front_bytes f ++ (c.pages ++ (list_bytes frame_bytes c.frames ++ (c.rest ++ x)))
unfolding taken
taken_front c f x e =
    append_assoc (front_part c.front) (c.pages ++ (list_bytes frame_bytes c.frames ++ c.rest)) x
    ∙ ap (λ (t : List ℕ). front_part c.front ++ t) (append_assoc c.pages (list_bytes frame_bytes c.frames ++ c.rest) x ∙ ap (λ (t : List ℕ). c.pages ++ t) (append_assoc (list_bytes frame_bytes c.frames) c.rest x))
    ∙ ap (λ (o : Option SegmentFront). front_part o ++ (c.pages ++ (list_bytes frame_bytes c.frames ++ (c.rest ++ x)))) e

-- with all its pages
pub parsed : (f : SegmentFront) (pages rest y : List ℕ) (n : ℕ) → FitsSegmentFront f → page_count f.head ≡ Some (n, rest) → length pages ≡ 4096 * n
    → segment_of (segment_front_bytes f ++ (pages ++ y)) ≡ kept (nat_le (length (segment_front_bytes f ++ (pages ++ y))) (2 ^ 26) && are_entries f.start f.before y) (record { front = f; pages = pages; frames = y })
unfolding segment_of
parsed f pages rest y n fits count len = rw (reads_front.again f (pages ++ y) fits, count, (reads_piece (4096 * n)).again pages y len) refl

-- without all of them
pub too_few : (f : SegmentFront) (rest y : List ℕ) (n : ℕ) → FitsSegmentFront f → page_count f.head ≡ Some (n, rest) → length y < 4096 * n → segment_of (segment_front_bytes f ++ y) ≡ None
unfolding segment_of
too_few f rest y n fits count lt = rw (reads_front.again f y fits, count, lt-ltb (length y) (4096 * n) lt) refl

-- what a segment has
pub record Has (bytes : List ℕ) (s : SegmentData) : Type 0 where
  pub behind : List ℕ
  pub front : segment_front_at bytes ≡ Some (s.front, behind)
  pub count : (p : ℕ × List ℕ) × (page_count s.front.head ≡ Some p)
  pub limit : length bytes ≤ 2 ^ 26

pub has : (bytes : List ℕ) (s : SegmentData) → segment_of bytes ≡ Some s → Has bytes s
unfolding segment_of
has bytes s e =
    let a = bind_some (segment_front_at bytes) _ s e in
    let n = bind_some (page_count a.0.0.head) _ s a.2 in
    let b = bind_some (piece_at (4096 * n.0.0) a.0.1) _ s n.2 in
    let k = kept_some _ _ s b.2 in
    let t = and_true _ _ k.0 in
    let is : a.0.0 ≡ s.front = ap (λ (z : SegmentData). z.front) k.1 in
    record {
      behind = a.0.1;
      front = a.1 ∙ ap (λ (z : SegmentFront). Some (z, a.0.1)) is;
      count = (n.0, ap (λ (z : SegmentFront). page_count z.head) (sym is) ∙ n.1);
      limit = leb-true _ _ t.0;
    }

pub in_none : (bytes : List ℕ) → segment_of bytes ≡ None → segment_in bytes ≡ None
unfolding segment_in
in_none bytes e = rw e refl

pub in_some : (bytes : List ℕ) (s : SegmentData) → segment_in bytes ≡ Some s → (segment_of bytes ≡ Some s) × (length s.front.head ≤ longest_head)
unfolding segment_in
in_some bytes s e =
    let a = bind_some (segment_of bytes) _ s e in
    let k = kept_some _ _ s a.2 in
    (a.1 ∙ ap (λ (z : SegmentData). Some z) k.1, subst (λ (z : SegmentData). length z.front.head ≤ longest_head) k.1 (leb-true _ _ k.0))

-- no segment, since each would lead to a contradiction
pub by_none : (bytes : List ℕ) → ((s : SegmentData) → segment_of bytes ≡ Some s → length s.front.head ≤ longest_head → ⊥) → segment_in bytes ≡ None
by_none bytes f = go (segment_in bytes) refl
  where
    go : (r : Option SegmentData) → segment_in bytes ≡ r → r ≡ None
    go None e = refl
    go (Some s) e = let p = in_some bytes s e in absurd (f s p.0 p.1)
