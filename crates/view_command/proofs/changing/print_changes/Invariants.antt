use Rattle.std.proofs.Common.{◌≡◌, ◌++◌, ◌-◌, List, ℕ}
use Rattle.std.specs.Prelude.{map}
use Rattle.view_model.specs.Views.{changes_in, word_at}
use Rattle.view_command.specs.Lines.{change_line}
use Rattle.command_parts.specs.Printing.{Prints}
use Rattle.view_command.proofs.changing.print_changes.Given as goal

-- the lines that were printed, and those of the changes from here on, are all
abbrev pub invariant-loop-alloc : goal.invariant-loop-alloc
invariant-loop-alloc g l = record {
  printed : (said : List (List ℕ)) × (said ++ map change_line (changes_in l.address (l.viewer.last - l.viewer.point.state.count) l.viewer.point) ≡ map change_line (changes_in l.address (l.fn.viewer.last - l.fn.viewer.point.state.count) l.fn.viewer.point))
      × Prints said (g.S.Sink.faults l.initial.out) (g.S.Sink.faults l.out) (g.S.Sink.written l.initial.out) (g.S.Sink.written l.out);
  old : l.old ≡ word_at l.address l.viewer.point.state;
  last : l.viewer.last ≡ l.fn.viewer.last;
}

abbrev pub decreases-loop-alloc : goal.decreases-loop-alloc
decreases-loop-alloc g l = l.viewer.last - l.viewer.point.state.count
