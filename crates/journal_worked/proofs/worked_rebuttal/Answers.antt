use Rattle.journal_worked.proofs.Computed.{meet, never_signed, second_forged}
use Rattle.journal_worked.proofs.worked_rebuttal.Goals as goal

pub returns-clause-forged : goal.returns-clause-forged
returns-clause-forged c = never_signed

pub returns-clause-collision : goal.returns-clause-collision
returns-clause-collision c same x y other one = meet same x y other one

pub returns-clause-second : goal.returns-clause-second
returns-clause-second c = second_forged
