use Rattle.std.proofs.Common.{◌≡◌, ◌++◌, ◌-◌, List, ℕ}
use Rattle.view_command.specs.Lines.{register_lines}
use Rattle.command_parts.specs.Printing.{Prints}
use Rattle.view_command.proofs.showing.print_registers.Given as goal

-- the lines that were printed, and those of the registers from here on, are all
abbrev pub invariant-loop-number : goal.invariant-loop-number
invariant-loop-number g l =
    (said : List (List ℕ)) × (said ++ register_lines l.machine.state.hart l.number (32 - l.number) ≡ register_lines l.machine.state.hart 0 32)
    × Prints said (g.S.Sink.faults l.initial.out) (g.S.Sink.faults l.out) (g.S.Sink.written l.initial.out) (g.S.Sink.written l.out)
