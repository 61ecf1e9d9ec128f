use Rattle.std.proofs.Common.{◌≡◌, ℕ, ◌<◌, ◌≤◌, length, slice_index}
use Rattle.lms_ots.proofs.tests.every_length.Given as goal

abbrev pub invariant-loop-i : goal.invariant-loop-i
invariant-loop-i l = record {
  rows : length l.to ≡ 265;
  small : (i : ℕ) → i < 265 → slice_index l.to i ≤ 256;
}
