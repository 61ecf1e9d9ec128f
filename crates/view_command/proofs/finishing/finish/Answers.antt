use Rattle.std.proofs.Common.{inl, refl, rules}
use Rattle.command_parts.proofs.Printed.{prints_none}
use Rattle.view_command.specs.Outcomes.{Ended}
use Rattle.view_command.specs.declared.ends.End.TheVariants.{Shown}
use Rattle.view_command.proofs.finishing.finish.Goals as goal

pub returns-in-Ok-Shown-clause-line : goal.returns-in-Ok-Shown-clause-line
returns-in-Ok-Shown-clause-line g c = λ ne. (Ended Shown, search rules, inl (refl, prints_none _ _))
