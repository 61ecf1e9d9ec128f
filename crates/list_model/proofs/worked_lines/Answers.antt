use Rattle.std.proofs.Common.{refl}
use Rattle.std.specs.Fmt.{digits}
use Rattle.list_model.specs.Lines.{hex}
use Rattle.list_model.proofs.worked_lines.Goals as goal

pub returns-clause-console : goal.returns-clause-console
unfolding hex digits
returns-clause-console c = refl

pub returns-clause-clock : goal.returns-clause-clock
unfolding digits
returns-clause-clock c = refl

pub returns-clause-empty : goal.returns-clause-empty
unfolding digits
returns-clause-empty c = refl

pub returns-clause-halt : goal.returns-clause-halt
unfolding digits
returns-clause-halt c = refl

pub returns-clause-sealed : goal.returns-clause-sealed
unfolding digits
returns-clause-sealed c = refl

pub returns-clause-retired : goal.returns-clause-retired
unfolding digits
returns-clause-retired c = refl
