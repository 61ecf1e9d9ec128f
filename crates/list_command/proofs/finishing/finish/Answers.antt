use Rattle.std.proofs.Common.{inl, refl, rules}
use Rattle.command_parts.proofs.Printed.{prints_none}
use Rattle.list_command.specs.Outcomes.{Ended}
use Rattle.list_command.specs.declared.ends.End.TheVariants.{Listed}
use Rattle.list_command.proofs.finishing.finish.Goals as goal

pub returns-in-Ok-Listed-clause-line : goal.returns-in-Ok-Listed-clause-line
returns-in-Ok-Listed-clause-line g c = λ ne. (Ended Listed, search rules, inl (refl, prints_none _ _))
