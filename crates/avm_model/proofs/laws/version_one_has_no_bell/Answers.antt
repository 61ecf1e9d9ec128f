use Rattle.avm_model.proofs.VersionLaws.{no_loads, no_stores, none_rings, clock_is_quiet}
use Rattle.avm_model.proofs.laws.version_one_has_no_bell.Goals as goal

pub returns-clause-loads : goal.returns-clause-loads
returns-clause-loads c d e = no_loads d e

pub returns-clause-stores : goal.returns-clause-stores
returns-clause-stores c d value e = no_stores d value e

pub returns-clause-inputs : goal.returns-clause-inputs
returns-clause-inputs c s i e = none_rings s i e

pub returns-clause-clock : goal.returns-clause-clock
returns-clause-clock c s value = clock_is_quiet s value
