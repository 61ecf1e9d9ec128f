use Rattle.std.proofs.Common.{refl, ◌∙◌}
use Rattle.rebut_command.specs.Judging.{judged_view}
use Rattle.rebut_command.specs.Outcomes.{Ended, judged_lines}
use Rattle.rebut_command.proofs.Printing.{printed_as}
use Rattle.rebut_command.proofs.saying.say_judged.Goals as goal

pub returns-in-Ok : goal.returns-in-Ok
returns-in-Ok g c =
    let shown = rw c.status.ensures at c.print_last.ensures in
    (Ended (judged_view c.args.judged), refl, printed_as c.as_bytes.result.now (judged_lines (judged_view c.args.judged)) _ _ _ _ _ c.print_last.result (c.as_bytes.ensures.value ∙ c.in-Ok.ensures) shown)
