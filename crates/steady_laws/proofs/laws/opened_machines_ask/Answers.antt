use Rattle.steady_laws.proofs.Opened.{opened_wanted}
use Rattle.steady_laws.proofs.laws.opened_machines_ask.Goals as goal

pub returns : goal.returns
returns g j s o some = opened_wanted j s o some
