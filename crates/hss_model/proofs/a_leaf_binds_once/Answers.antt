use Rattle.hss_model.proofs.Leaves.{keeps, binds_once}
use Rattle.hss_model.proofs.a_leaf_binds_once.Goals as goal

pub returns-clause-kept : goal.returns-clause-kept
returns-clause-kept c = λ es r s. keeps es r s

pub returns-clause-once : goal.returns-clause-once
returns-clause-once c = λ es r s leaf a b. binds_once es r s leaf a b
