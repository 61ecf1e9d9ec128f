use Rattle.std.proofs.Common.{◌≡◌, ◌+◌, ◌≤◌, length}
use Rattle.journal_model.specs.Standing.{IsLow, continued}
use Rattle.journal_model.proofs.Judging.{rest_judged}
use Rattle.jrnl_part.specs.Views.{standing_view, bounds_view}
use Rattle.jrnl_part.proofs.standing.continued.Given as goal

abbrev pub invariant-loop-part : goal.invariant-loop-part
invariant-loop-part l = record {
  same : rest_judged (bounds_view l.bounds) (standing_view l.stand) l.snap l.view ≡ continued (bounds_view l.fn.bounds) (standing_view l.fn.standing) l.fn.items;
  low : IsLow (bounds_view l.bounds) (standing_view l.stand);
  least : l.fn.standing.next ≤ l.stand.next;
  most : l.stand.next + length l.view ≤ l.fn.standing.next + length l.fn.items;
}

abbrev pub decreases-loop-part : goal.decreases-loop-part
decreases-loop-part l = length l.view
