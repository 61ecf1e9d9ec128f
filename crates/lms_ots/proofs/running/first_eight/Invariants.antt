use Rattle.std.proofs.Common.{◌≡◌, ℕ, ◌<◌, length, slice_index}
use Rattle.lms_ots.proofs.running.first_eight.Given as goal

abbrev pub invariant-loop-k : goal.invariant-loop-k
invariant-loop-k l = record {
  rows : length l.lanes ≡ 8;
  done : (k : ℕ) → k < 8 → slice_index l.lanes k < 265;
}
