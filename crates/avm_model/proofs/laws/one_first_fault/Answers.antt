use Rattle.avm_model.proofs.ReplayTheorems.{judged_fault, fault_unique, fault_whole}
use Rattle.avm_model.proofs.laws.one_first_fault.Goals as goal

pub returns-clause-found : goal.returns-clause-found
returns-clause-found g c m law s before e behind j h none = judged_fault m law s before e behind j h none

pub returns-clause-one : goal.returns-clause-one
returns-clause-one g c m law s es a b p q = fault_unique m law s es a b p q

pub returns-clause-whole : goal.returns-clause-whole
returns-clause-whole g c m law s es k f h = fault_whole m law s es k f h
