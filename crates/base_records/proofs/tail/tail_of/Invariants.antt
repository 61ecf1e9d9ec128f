use Rattle.std.proofs.Common.{◌≡◌, ◌≤◌, length}
use Rattle.base_records.proofs.Tails.{Left}
use Rattle.base_records.proofs.tail.tail_of.Given as goal

abbrev pub invariant-loop-part : goal.invariant-loop-part
invariant-loop-part l = record {
  same : l.here ≡ l.view;
  short : length l.here ≤ length l.fn.items;
  left : Left l.fn.number l.fn.items l.view;
}

abbrev pub decreases-loop-part : goal.decreases-loop-part
decreases-loop-part l = length l.view
