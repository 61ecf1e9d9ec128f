use Rattle.std.proofs.Common.{◌^◌, None}
use Rattle.avm_model.specs.Audit.{auths_within}
use Rattle.command_parts.proofs.Cuts.{read_ok}
use Rattle.audit_command.proofs.Long.{auths_long}
use Rattle.audit_command.proofs.limits.read_auths.Goals as goal

pub returns-clause-bytes : goal.returns-clause-bytes
returns-clause-bytes g c = read_ok auths_within None (2 ^ 24) auths_long _ (λ v. v.items) _ c.read_whole.ensures.bytes
