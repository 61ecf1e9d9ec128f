use Rattle.std.proofs.Common.{ℕ, ◌<◌, ◌≤◌, ◌+◌, slice_index}
use Rattle.lms_ots.proofs.running.least.Given as goal

abbrev pub invariant-loop-k : goal.invariant-loop-k
invariant-loop-k l = (k : ℕ) → k < l.k → slice_index l.at (slice_index l.lanes k) + l.steps ≤ slice_index l.to (slice_index l.lanes k)
