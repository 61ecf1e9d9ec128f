use Rattle.std.proofs.Common.{rules, sym, ◌∙◌}
use Rattle.avm_script.specs.Job.{widen_job, widen_command}
use Rattle.avm_script.proofs.Asked.{refused, asked}
use Rattle.avm_script.proofs.levels.widen.Goals as goal

pub returns-then-not-is_paired : goal.returns-then-not-is_paired
returns-then-not-is_paired c = sym (refused widen_command _ (sym c.is_paired.ensures ∙ c.if-not-is_paired.true))

pub returns : goal.returns
unfolding widen_job
returns c = rw (asked widen_command _ (sym c.is_paired.ensures ∙ c.if-not-is_paired.false)) (search rules)
