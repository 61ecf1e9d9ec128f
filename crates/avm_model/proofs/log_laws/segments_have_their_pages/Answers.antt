use Rattle.avm_model.proofs.SegmentPages.{has_pages}
use Rattle.avm_model.proofs.log_laws.segments_have_their_pages.Goals as goal

pub returns : goal.returns
returns c bytes s h e = has_pages bytes s h e
