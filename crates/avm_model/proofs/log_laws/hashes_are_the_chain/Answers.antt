use Rattle.avm_model.proofs.Hashes.{at_place, none_before, last_is}
use Rattle.avm_model.proofs.log_laws.hashes_are_the_chain.Goals as goal

pub returns-clause-at : goal.returns-clause-at
returns-clause-at c start n h fs p le = at_place start n h fs p le

pub returns-clause-before : goal.returns-clause-before
returns-clause-before c start n h fs p l = none_before start n h fs p l

pub returns-clause-top : goal.returns-clause-top
returns-clause-top c h f fs = last_is h f fs
