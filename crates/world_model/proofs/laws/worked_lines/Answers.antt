use Rattle.std.proofs.Common.{refl}
use Rattle.std.specs.Fmt.{digits}
use Rattle.world_model.specs.Lines.{first_line, pair_line}
use Rattle.world_model.proofs.laws.worked_lines.Goals as goal

pub returns-clause-first : goal.returns-clause-first
unfolding first_line digits
returns-clause-first c = refl

pub returns-clause-pairs : goal.returns-clause-pairs
unfolding first_line pair_line digits
returns-clause-pairs c = refl
