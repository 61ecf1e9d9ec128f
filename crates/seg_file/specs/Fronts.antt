-- A front, and the page count that its head says.
use Rattle.std.specs.Prelude.{ℕ, List, Option, Some}
use Rattle.avm_num.specs.Bytes.{◌>>=◌}
use Rattle.avm_model.specs.Segment.{SegmentFront, segment_front_at, page_count}
use Rattle.seg_file.specs.Views.{front_view}
use Rattle.seg_file.specs.declared.front.Counted.{Counted}

unfoldable pub counted_at : List ℕ → Option (SegmentFront × ℕ)
counted_at part = do
  front ← segment_front_at part
  count ← page_count front.0.head
  Some (front.0, count.0)

abbrev pub counted_view : Counted → SegmentFront × ℕ
counted_view c = (front_view c.front, c.pages)
