use Rattle.std.proofs.Common.{rules}
use Rattle.format_command.specs.Outcomes.{Ended}
use Rattle.format_command.proofs.finishing.finish.Goals as goal

pub returns-in-Ok : goal.returns-in-Ok
returns-in-Ok g c = (Ended c.in-Ok.end, search rules, rw (c.line_of_end.ensures, c.status.ensures) at c.print_last.ensures)
