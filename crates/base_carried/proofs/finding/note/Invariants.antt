use Rattle.std.proofs.Common.{length, ◌-◌, ◌≡◌, ◌≤◌}
use Rattle.log_entry.specs.Views.{content_view}
use Rattle.base_carried.specs.Rows.{noted}
use Rattle.base_carried.proofs.Noting.{upto}
use Rattle.base_carried.proofs.finding.note.Given as goal

abbrev pub invariant-loop-at : goal.invariant-loop-at
invariant-loop-at l = record {
  rows : l.rows ≡ upto (noted l.fn.seq (content_view l.fn.content)) l.at l.fn.rows;
  few : l.at ≤ length l.fn.rows;
}

abbrev pub decreases-loop-at : goal.decreases-loop-at
decreases-loop-at l = length l.initial.rows - l.at
