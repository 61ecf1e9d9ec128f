use Rattle.std.proofs.Common.{subst}
use Rattle.avm_model.specs.Memory.{RamState}
use Rattle.record_batch.specs.Keeping.{AreMarks}
use Rattle.record_parts.proofs.Marks.{keeps_marked}
use Rattle.record_parts.proofs.snapping.put_snap.Goals as goal

pub returns-clause-marked : goal.returns-clause-marked
returns-clause-marked c =
    keeps_marked c.args.machine.now.state c.args.marks.now (subst (λ (r : RamState). AreMarks c.args.marks.now r.bytes) c.ram.ensures c.add_keep.ensures.marks)
