use Rattle.std.proofs.Common.{ℕ, ◌<◌}
use Rattle.avm_model.specs.LmsOts.{head_of}
use Rattle.lms_ots.specs.Chains.{text_at, IsAt}
use Rattle.lms_ots.proofs.values.seeds.Given as goal

abbrev pub invariant-loop-i : goal.invariant-loop-i
invariant-loop-i l = (i : ℕ) → i < l.i → IsAt (head_of l.base i) l.seed (text_at l.texts i)
