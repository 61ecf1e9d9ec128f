use Rattle.std.proofs.Common.{rules, sym, ◌∙◌}
use Rattle.avm_script.specs.Job.{audit_job, audit_command}
use Rattle.avm_script.proofs.Asked.{refused, asked}
use Rattle.avm_script.proofs.commands.audit.Goals as goal

pub returns-then-not-is_paired : goal.returns-then-not-is_paired
returns-then-not-is_paired c = sym (refused audit_command _ (sym c.is_paired.ensures ∙ c.if-not-is_paired.true))

pub returns : goal.returns
unfolding audit_job
returns c = rw (asked audit_command _ (sym c.is_paired.ensures ∙ c.if-not-is_paired.false)) (search rules)
