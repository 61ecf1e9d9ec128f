use Rattle.std.proofs.Common.{sym, subst, refl}
use Rattle.record_batch.specs.Batch.{IsWhole}
use Rattle.record_batch.proofs.Adding.{no_parts, none_whole}
use Rattle.record_batch.proofs.batch.Batch.new.Goals as goal

pub invariant_of-result : goal.invariant_of-result
invariant_of-result c = subst IsWhole (sym c.in_ok-room.ensures) (none_whole, refl)

pub returns : goal.returns
returns c = rw (c.in_ok-room.ensures, no_parts) refl
