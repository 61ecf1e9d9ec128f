use Rattle.journal_model.proofs.Judging.{stands_next, stands_hash, stands_prior, stands_used, stands_sealed}
use Rattle.journal_model.proofs.laws.standing_tells_all.Goals as goal

pub returns-clause-next : goal.returns-clause-next
returns-clause-next c j = stands_next j

pub returns-clause-hash : goal.returns-clause-hash
returns-clause-hash c j = stands_hash j

pub returns-clause-prior : goal.returns-clause-prior
returns-clause-prior c j = stands_prior j

pub returns-clause-used : goal.returns-clause-used
returns-clause-used c j = stands_used j

pub returns-clause-sealed : goal.returns-clause-sealed
returns-clause-sealed c j = stands_sealed j
