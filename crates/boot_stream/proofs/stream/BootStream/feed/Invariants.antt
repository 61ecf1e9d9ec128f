use Rattle.std.proofs.Common.{ℕ, ◌≤◌, ◌-◌, ◌++◌, List, length, take}
use Rattle.boot_stream.specs.Booting.{Saw}
use Rattle.boot_stream.proofs.stream.BootStream.feed.Given as goal

abbrev pub invariant-loop-at : goal.invariant-loop-at
invariant-loop-at l = record {
  within : l.at ≤ length l.piece;
  seen : (image bytes : List ℕ) → Saw l.fn.self image bytes → Saw l.self image (bytes ++ take l.at l.piece);
}

abbrev pub decreases-loop-at : goal.decreases-loop-at
decreases-loop-at l = length l.piece - l.at
