use Rattle.audit_stream.proofs.Acceptance.{acceptance}
use Rattle.audit_stream.proofs.stream.AuditStream.finish.Goals as goal

pub returns-clause-accepted : goal.returns-clause-accepted
returns-clause-accepted c key auths bytes h = acceptance key bytes auths c.verdict.result (c.verdict.ensures key auths bytes h)
