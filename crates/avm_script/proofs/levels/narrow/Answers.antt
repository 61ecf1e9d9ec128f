use Rattle.std.proofs.Common.{rules, sym, ◌∙◌}
use Rattle.avm_script.specs.Job.{narrow_job, narrow_command}
use Rattle.avm_script.proofs.Asked.{refused, asked}
use Rattle.avm_script.proofs.levels.narrow.Goals as goal

pub returns-then-not-is_paired : goal.returns-then-not-is_paired
returns-then-not-is_paired c = sym (refused narrow_command _ (sym c.is_paired.ensures ∙ c.if-not-is_paired.true))

pub returns : goal.returns
unfolding narrow_job
returns c = rw (asked narrow_command _ (sym c.is_paired.ensures ∙ c.if-not-is_paired.false)) (search rules)
