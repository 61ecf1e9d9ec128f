use Rattle.std.proofs.Common.{sym, ap, ◌∙◌, append-nil}
use Rattle.std.specs.List.{concat}
use Rattle.std.specs.String.{string_bytes}
use Rattle.command_parts.specs.Printing.{line}
use Rattle.rebut_command.specs.Judging.{judged_view}
use Rattle.rebut_command.specs.Lines.{text_of}
use Rattle.rebut_command.specs.Outcomes.{judged_lines}
use Rattle.rebut_command.specs.declared.judging.Judged.{Judged}
use Rattle.rebut_command.proofs.Ending.{as_text}
use Rattle.rebut_command.proofs.judging.Judged.text.Goals as goal

pub returns-in-Refused : goal.returns-in-Refused
returns-in-Refused c =
    as_text string_bytes c.line.result (line (text_of c.in-Refused.refusal)) (concat (judged_lines (judged_view c.args.self.now)))
    (sym (append-nil (line (text_of c.in-Refused.refusal))) ∙ ap (λ (j : Judged). concat (judged_lines (judged_view j))) (sym c.in-Refused.is)) c.line.ensures
