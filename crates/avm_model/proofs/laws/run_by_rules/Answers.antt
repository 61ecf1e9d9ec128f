use Rattle.avm_model.proofs.ReplayTheorems.{rule_two, rule_three}
use Rattle.avm_model.proofs.laws.run_by_rules.Goals as goal

pub returns-clause-step : goal.returns-clause-step
returns-clause-step g c m law s t os is n free lt e = rule_two m law s t os is n free lt e

pub returns-clause-end : goal.returns-clause-end
returns-clause-end g c m s is n free ends = rule_three m s is n free ends
