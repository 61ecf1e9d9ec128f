use Rattle.seg_file.proofs.Going.{begins_nothing}
use Rattle.seg_file.proofs.reader.SegReader.new.Goals as goal

pub returns : goal.returns
returns c = rw (c.in_ok-store.ensures) (begins_nothing c.start_place.result c.start_place.ensures)
