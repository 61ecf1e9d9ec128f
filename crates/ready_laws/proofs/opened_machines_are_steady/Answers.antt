use Rattle.ready_laws.proofs.Steady.{steady}
use Rattle.ready_laws.proofs.opened_machines_are_steady.Goals as goal

pub returns : goal.returns
returns c j s fits few none opened = steady j s fits few none opened
