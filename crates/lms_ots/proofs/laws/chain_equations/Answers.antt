use Rattle.std.proofs.Common.{refl, add-one}
use Rattle.avm_model.proofs.LmsChains.{chain_then}
use Rattle.avm_model.proofs.LmsLaw.{candidate_is}
use Rattle.lms_ots.proofs.laws.chain_equations.Goals as goal

pub returns-clause-more : goal.returns-clause-more
returns-clause-more c head x a n = rw add-one refl

pub returns-clause-parts : goal.returns-clause-parts
returns-clause-parts c head x a n m = chain_then head a n m x

pub returns-clause-back : goal.returns-clause-back
returns-clause-back c ots q id seed text = candidate_is ots q id seed text
