use Rattle.evid_file.proofs.EvidenceLaws.{found, none}
use Rattle.evid_file.proofs.reading.read_evidence.Goals as goal

pub returns-clause-found : goal.returns-clause-found
returns-clause-found c = found _ _ c.are_bytes.ensures c.within.ensures

pub returns-clause-none : goal.returns-clause-none
returns-clause-none c = none _ _ c.within.ensures
