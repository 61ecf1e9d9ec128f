use Rattle.acceptance_laws.proofs.Accepted.{accepted}
use Rattle.acceptance_laws.proofs.laws.exports_are_accepted.Goals as goal

pub returns : goal.returns
returns c = accepted
