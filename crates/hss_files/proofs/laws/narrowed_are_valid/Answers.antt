use Rattle.hss_files.proofs.Valids.{narrowed_valid, narrowed_key}
use Rattle.hss_files.proofs.laws.narrowed_are_valid.Goals as goal

pub returns-clause-valid : goal.returns-clause-valid
returns-clause-valid c = λ top bytes bottom auths fits e. narrowed_valid top bytes bottom auths fits e

pub returns-clause-key : goal.returns-clause-key
returns-clause-key c = λ top bytes bottom auths e. narrowed_key top bytes bottom auths e
