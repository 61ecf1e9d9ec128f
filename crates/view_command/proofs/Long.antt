-- Bytes past a segment's limit are none.
use Rattle.std.proofs.Common.{◌≡◌, ℕ, ◌^◌, ◌*◌, ◌<◌, ◌&&◌, Bool, true, false, List, length, Option, None, Some, refl}
use Rattle.std.specs.Prelude.{nat_le}
use Rattle.std.proofs.lemmas.Bool.{lt-leb}
use Rattle.avm_num.specs.Bytes.{◌>>=◌, kept, piece_at}
use Rattle.avm_model.specs.Segment.{SegmentFront, segment_of, segment_front_at, page_count, whole_segment_of}

none_after : {A B : Type 0} (m : Option A) (f : A → Option B) → ((x : A) → f x ≡ None) → (m >>= f) ≡ None
none_after None f each = refl
none_after (Some x) f each = each x

kept_none : {A : Type 0} (fits other : Bool) (x : A) → fits ≡ false → kept (fits && other) x ≡ None
kept_none false other x e = refl
kept_none true other x e = cc

segment_long : (bytes : List ℕ) → 2 ^ 26 < length bytes → segment_of bytes ≡ None
unfolding segment_of
segment_long bytes more =
    none_after {A = SegmentFront × List ℕ} (segment_front_at bytes) _ (λ front.
    none_after {A = ℕ × List ℕ} (page_count front.0.head) _ (λ count.
    none_after {A = List ℕ × List ℕ} (piece_at (4096 * count.0) front.1) _ (λ pages.
    kept_none (nat_le (length bytes) (2 ^ 26)) _ _ (lt-leb (length bytes) (2 ^ 26) more))))

pub whole_long : (bytes : List ℕ) → 2 ^ 26 < length bytes → whole_segment_of bytes ≡ None
unfolding whole_segment_of
whole_long bytes more = rw (segment_long bytes more) refl
