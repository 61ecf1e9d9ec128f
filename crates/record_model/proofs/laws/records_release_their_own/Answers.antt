use Rattle.record_model.proofs.Pieces.{pieces_more}
use Rattle.record_model.proofs.laws.records_release_their_own.Goals as goal

pub returns : goal.returns
returns c who j r = pieces_more who j r
