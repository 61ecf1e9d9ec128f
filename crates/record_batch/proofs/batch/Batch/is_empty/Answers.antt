use Rattle.std.proofs.Common.{ap, ◌∙◌}
use Rattle.record_batch.specs.Batch.{BatchData}
use Rattle.record_batch.proofs.Adding.{empty_test}
use Rattle.record_model.specs.Recording.{is_none}
use Rattle.record_batch.proofs.batch.Batch.is_empty.Goals as goal

pub returns : goal.returns
returns c = empty_test c.self.inside.room _ c.are_bytes.ensures c.bytes-bytes.ensures c.self.invariant ∙ ap (λ (b : BatchData). is_none b.parts) c.self.view_is
