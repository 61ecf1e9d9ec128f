use Rattle.evid_file.proofs.EvidenceLaws.{evidence_again}
use Rattle.evid_file.proofs.writing.write_evidence.Goals as goal

pub returns-clause-again : goal.returns-clause-again
returns-clause-again g c = evidence_again
