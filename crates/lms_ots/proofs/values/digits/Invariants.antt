use Rattle.std.proofs.Common.{◌≡◌, ℕ, ◌<◌, ◌≤◌, ◌-◌, ◌^◌, length, slice_index}
use Rattle.avm_model.specs.LmsDigits.{coef}
use Rattle.lms_ots.proofs.values.digits.Given as goal

abbrev pub invariant-loop-i : goal.invariant-loop-i
invariant-loop-i l = record {
  rows : length l.all ≡ 265;
  value : (i : ℕ) → i < l.i → slice_index l.all i ≡ coef l.signed i l.w;
  small : (i : ℕ) → i < 265 → slice_index l.all i ≤ 2 ^ l.w - 1;
}
