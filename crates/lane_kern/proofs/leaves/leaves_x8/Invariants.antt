use Rattle.std.proofs.Common.{◌≡◌, ℕ, ◌<◌, ◌+◌, ◌*◌, slice_range}
use Rattle.lane_kern.specs.Lanes.{lane}
use Rattle.lane_kern.specs.Leaves.{leaf_state}
use Rattle.lane_kern.proofs.leaves.leaves_x8.Given as goal

abbrev pub invariant-loop-i : goal.invariant-loop-i
invariant-loop-i l = (j : ℕ) → j < 8 → lane j l.state ≡ leaf_state (slice_range l.pages (4096 * j) (4096 * j + 4096)) l.i
