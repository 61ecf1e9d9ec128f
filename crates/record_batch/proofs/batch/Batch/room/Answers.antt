use Rattle.std.proofs.Common.{ap, sym, ◌∙◌}
use Rattle.record_batch.specs.Batch.{batch_size}
use Rattle.record_batch.proofs.Adding.{room_size}
use Rattle.record_batch.proofs.batch.Batch.room.Goals as goal

pub returns-clause-size : goal.returns-clause-size
returns-clause-size c =
    sym (ap batch_size (sym c.self.view_is) ∙ room_size c.self.inside.room c.bytes.result.now c.self.inside.next c.are_bytes.ensures c.bytes.ensures c.self.invariant)
