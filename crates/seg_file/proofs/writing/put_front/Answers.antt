use Rattle.seg_file.proofs.SegmentLaws.{segment_again}
use Rattle.seg_file.proofs.writing.put_front.Goals as goal

pub returns-clause-again : goal.returns-clause-again
returns-clause-again c s fits = segment_again s fits
