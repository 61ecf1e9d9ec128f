-- The pages of a segment.
use Rattle.std.specs.Prelude.{◌≡◌, ◌*◌, IsTrue, length}
use Rattle.avm_model.specs.Memory.{is_page_count}
use Rattle.avm_model.specs.Head.{HeadData}
use Rattle.avm_model.specs.Segment.{SegmentData}

-- they are as many as the head says, a power of two up to 4096
pub record HasPages (s : SegmentData) (h : HeadData) : Type 0 where
  pub size : length s.pages ≡ 4096 * h.front.pages
  pub count : IsTrue (is_page_count h.front.pages)
