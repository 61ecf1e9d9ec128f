use Rattle.std.proofs.Common.{ap, ◌∙◌}
use Rattle.avm_model.specs.Machine.{State}
use Rattle.avm_model.specs.Rerun.{Stand}
use Rattle.avm_model.specs.Reference.{Made}
use Rattle.honest_model.proofs.Honesty.{honest_leads}
use Rattle.honest_model.proofs.Openings.{opens_well, opened_is}
use Rattle.honest_model.proofs.laws.opened_as_replayed.Goals as goal

pub returns-clause-fault : goal.returns-clause-fault
returns-clause-fault c j fault honest keeps numbers f =
    let from = honest.fault.0 in
    let head = honest.fault.1 in
    let l = honest_leads j from honest head in
    opens_well j from l.0 fault head l.1 keeps numbers f

pub returns-clause-machine : goal.returns-clause-machine
returns-clause-machine c j from s honest keeps head o =
    let l = honest_leads j from honest head in
    opened_is j from l.0 s head l.1 keeps o ∙ ap (λ (k : Stand State Made). k.state) l.1.stands.is

pub returns-clause-leads : goal.returns-clause-leads
returns-clause-leads c j from to s head leads keeps o = opened_is j from to s head leads keeps o
