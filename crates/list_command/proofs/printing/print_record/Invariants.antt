use Rattle.std.proofs.Common.{◌≡◌, ◌++◌, List, ℕ}
use Rattle.command_parts.specs.Printing.{Prints}
use Rattle.list_command.specs.Listing.{items_lines}
use Rattle.list_command.proofs.printing.print_record.Given as goal

-- the lines that were printed, and those of the items that are left, are all
abbrev pub invariant-loop-item : goal.invariant-loop-item
invariant-loop-item g l = record {
  can : (goal.iterator-loop-item g).can_next l.left × (goal.iterator-loop-item g).is_finite l.left;
  printed : (said : List (List ℕ)) × (said ++ items_lines l.left ≡ items_lines l.fn.items) × Prints said (g.S.Sink.faults l.initial.out) (g.S.Sink.faults l.out) (g.S.Sink.written l.initial.out) (g.S.Sink.written l.out);
}
