use Rattle.std.proofs.Common.{ℕ, ◌<◌, ◌+◌, slice_index}
use Rattle.lms_ots.specs.Chains.{text_at, HasGone}
use Rattle.lms_ots.proofs.lanes.walk_eight.Given as goal

abbrev pub invariant-loop-done : goal.invariant-loop-done
invariant-loop-done l = (k : ℕ) → k < 8 → HasGone (text_at l.fn.texts k) (slice_index l.at k) (slice_index l.at k + l.done) (text_at l.texts k)
