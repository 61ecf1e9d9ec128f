use Rattle.journal_worked.proofs.Computed.{three, closed, cut, first}
use Rattle.journal_worked.proofs.worked_journal.Goals as goal

pub returns-clause-first : goal.returns-clause-first
returns-clause-first c = first

pub returns-clause-cut : goal.returns-clause-cut
returns-clause-cut c = cut

pub returns-clause-closed : goal.returns-clause-closed
returns-clause-closed c = closed

pub returns-clause-three : goal.returns-clause-three
returns-clause-three c = three
