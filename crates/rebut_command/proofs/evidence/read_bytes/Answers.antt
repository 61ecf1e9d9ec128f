use Rattle.std.proofs.Common.{None}
use Rattle.avm_model.specs.Evidence.{evidence_at, longest_evidence}
use Rattle.command_parts.proofs.Cuts.{read_ok}
use Rattle.rebut_command.proofs.Long.{evidence_long}
use Rattle.rebut_command.proofs.evidence.read_bytes.Goals as goal

pub returns-clause-bytes : goal.returns-clause-bytes
returns-clause-bytes g c = read_ok evidence_at None longest_evidence evidence_long _ (λ v. v.items) _ c.read_file.ensures.bytes
