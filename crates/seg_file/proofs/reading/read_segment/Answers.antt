use Rattle.seg_file.proofs.SegmentLaws.{found, none}
use Rattle.seg_file.proofs.reading.read_segment.Goals as goal

pub returns-clause-found : goal.returns-clause-found
returns-clause-found c = found _ _ c.are_bytes.ensures c.parse.ensures

pub returns-clause-none : goal.returns-clause-none
returns-clause-none c = none _ _ c.parse.ensures
