use Rattle.std.proofs.Common.{◌≡◌, ℕ, ◌<◌, length, slice_index}
use Rattle.lms_ots.specs.Chains.{HaveGone}
use Rattle.lms_ots.proofs.running.run_lanes.Given as goal

abbrev pub invariant-loop-turn : goal.invariant-loop-turn
invariant-loop-turn l = record {
  rows : length l.texts ≡ 265;
  places : length l.at ≡ 265;
  inside : (k : ℕ) → k < 8 → slice_index l.lanes k < 265;
  gone : HaveGone l.fn.texts l.fn.at l.to l.texts l.at;
}
