use Rattle.std.proofs.Common.{sym, subst, refl}
use Rattle.record_batch.specs.Batch.{IsWhole}
use Rattle.record_batch.proofs.Adding.{no_parts, none_whole}
use Rattle.record_batch.proofs.batch.Batch.clear.Goals as goal

pub invariant_of-self : goal.invariant_of-self
invariant_of-self c = subst IsWhole (sym c.clear.ensures) (none_whole, c.self.invariant.1)

pub returns : goal.returns
returns c = rw (c.clear.ensures, no_parts, ← c.self.view_is) refl
