use Rattle.honest_model.proofs.Honesty.{honest_leads, leads_honest}
use Rattle.honest_model.proofs.laws.honest_as_leading.Goals as goal

pub returns-clause-leads : goal.returns-clause-leads
returns-clause-leads c j s h head = honest_leads j s h head

pub returns-clause-honest : goal.returns-clause-honest
returns-clause-honest c j s t head l = leads_honest j s t head l
