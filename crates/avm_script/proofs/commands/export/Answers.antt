use Rattle.std.proofs.Common.{rules, sym, ◌∙◌}
use Rattle.avm_script.specs.Job.{export_job, export_command}
use Rattle.avm_script.proofs.Asked.{refused, asked}
use Rattle.avm_script.proofs.commands.export.Goals as goal

pub returns-then-not-is_paired : goal.returns-then-not-is_paired
returns-then-not-is_paired c = sym (refused export_command _ (sym c.is_paired.ensures ∙ c.if-not-is_paired.true))

pub returns : goal.returns
unfolding export_job
returns c = rw (asked export_command _ (sym c.is_paired.ensures ∙ c.if-not-is_paired.false)) (search rules)
