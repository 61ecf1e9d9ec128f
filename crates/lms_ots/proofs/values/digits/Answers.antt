use Rattle.std.proofs.Common.{◌≡◌, ℕ, arith, refl, replicate, slice_index}
use Rattle.std.proofs.lemmas.Simd.{get_or-replicate}
use Rattle.lms_ots.proofs.values.digits.Goals as goal

pub loop-i-init : goal.loop-i-init
loop-i-init c = record {
  rows = refl;
  value = λ i lt. absurd (omega arith);
  small = λ i lt. (
      let none : ℕ = 0 in
      let count : ℕ = 265 in
      let clear : slice_index (replicate count none) i ≡ 0 = get_or-replicate count i none 0 lt in
      omega (arith, clear)
      );
}
