-- Segments without where they lie in memory.
use Rattle.avm_model.specs.Segment.{SegmentFront, SegmentData}
use Rattle.seg_file.specs.declared.front.Segment.{Segment}
use Rattle.seg_file.specs.declared.front.Front.{Front}

abbrev pub front_view : Front → SegmentFront
front_view f = record { start = f.start; before = f.before.0; head = f.head.now }

abbrev pub segment_view : Segment → SegmentData
segment_view s = record { front = record { start = s.start; before = s.before.0; head = s.head.now }; pages = s.pages.now; frames = s.frames.now }
