use Rattle.std.proofs.Common.{◌≡◌, ◌++◌, ◌-◌, ◌+◌, ◌*◌, List, ℕ}
use Rattle.view_command.specs.Lines.{word_lines}
use Rattle.command_parts.specs.Printing.{Prints}
use Rattle.view_command.proofs.showing.print_words.Given as goal

-- the lines that were printed, and those of the words from here on, are all
abbrev pub invariant-loop-i : goal.invariant-loop-i
invariant-loop-i g l =
    (said : List (List ℕ)) × (said ++ word_lines l.machine.state (l.from + 4 * l.i) (l.words - l.i) ≡ word_lines l.machine.state l.from l.words)
    × Prints said (g.S.Sink.faults l.initial.out) (g.S.Sink.faults l.out) (g.S.Sink.written l.initial.out) (g.S.Sink.written l.out)
