use Rattle.export_headline.proofs.Joined.{plain_audit, signed_audit}
use Rattle.export_headline.proofs.laws.exports_audit_well.Goals as goal

pub returns-clause-signed : goal.returns-clause-signed
returns-clause-signed c = signed_audit

pub returns-clause-plain : goal.returns-clause-plain
returns-clause-plain c = plain_audit
