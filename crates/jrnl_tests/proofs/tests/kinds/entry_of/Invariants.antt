use Rattle.journal_model.specs.Standing.{IsLow}
use Rattle.jrnl_part.specs.Views.{standing_view, bounds_view}
use Rattle.jrnl_store.specs.Items.{moves_left}
use Rattle.jrnl_tests.proofs.tests.kinds.entry_of.Given as goal

abbrev pub invariant-loop-held : goal.invariant-loop-held
invariant-loop-held l = IsLow (bounds_view l.journal.bounds) (standing_view l.cursor.stand)

abbrev pub decreases-loop-held : goal.decreases-loop-held
decreases-loop-held l = moves_left l.cursor
