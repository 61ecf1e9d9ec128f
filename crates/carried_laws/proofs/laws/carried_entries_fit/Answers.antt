use Rattle.carried_laws.proofs.Ascents.{carried_ascend}
use Rattle.carried_laws.proofs.FewCarried.{carried_few}
use Rattle.carried_laws.proofs.SignedFit.{carried_fit, signed_fit}
use Rattle.carried_laws.proofs.laws.carried_entries_fit.Goals as goal

pub returns-clause-signed : goal.returns-clause-signed
returns-clause-signed c j h = signed_fit j h

pub returns-clause-fit : goal.returns-clause-fit
returns-clause-fit c j n s h = carried_fit j n s h

pub returns-clause-ascends : goal.returns-clause-ascends
returns-clause-ascends c j n s h snap = carried_ascend j n s h snap

pub returns-clause-few : goal.returns-clause-few
returns-clause-few c j n s own h snap small rows = carried_few j n s own h snap small rows
