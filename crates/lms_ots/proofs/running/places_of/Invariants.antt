use Rattle.std.proofs.Common.{◌≡◌, ℕ, ◌<◌, length, slice_index}
use Rattle.lms_ots.proofs.running.places_of.Given as goal

abbrev pub invariant-loop-k : goal.invariant-loop-k
invariant-loop-k l = record {
  rows : length l.places ≡ 8;
  done : (k : ℕ) → k < l.k → slice_index l.places k ≡ slice_index l.at (slice_index l.lanes k);
}
