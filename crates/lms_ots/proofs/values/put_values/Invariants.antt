use Rattle.std.proofs.Common.{◌≡◌, ◌+◌, ◌*◌, drop}
use Rattle.avm_model.specs.LmsOts.{joined}
use Rattle.avm_num.specs.Room.{with_bytes, left}
use Rattle.lms_ots.specs.Chains.{text_at}
use Rattle.lms_ots.proofs.values.put_values.Given as goal

abbrev pub invariant-loop-i : goal.invariant-loop-i
invariant-loop-i l = record {
  left : left l.out + 32 * l.i ≡ left l.fn.out;
  value : l.out ≡ with_bytes l.fn.out (joined (λ i. drop 23 (text_at l.texts i)) l.i);
}
