use Rattle.std.proofs.Common.{List, ◌++◌, sym, ap, ◌∙◌, append-nil, ℕ}
use Rattle.std.specs.Prelude.{codes}
use Rattle.std.specs.List.{concat}
use Rattle.std.specs.String.{string_bytes}
use Rattle.command_parts.specs.Printing.{line}
use Rattle.hex.specs.Hex.{encode_with, lower_digits}
use Rattle.rebut_command.specs.Lines.{answer_lines}
use Rattle.rebuttal.specs.Answers.{answer_view}
use Rattle.rebuttal.specs.declared.answers.Rebuttal.{Rebuttal}
use Rattle.rebut_command.proofs.Ending.{as_text}
use Rattle.rebut_command.proofs.lines.answer_text.Goals as goal

pub returns-in-Collision : goal.returns-in-Collision
returns-in-Collision c =
    as_text string_bytes c.collision_text.result (line (codes "collision") ++ (line (encode_with lower_digits c.in-Collision.ours) ++ line (encode_with lower_digits c.in-Collision.theirs))) (concat (answer_lines (answer_view c.args.answer.now)))
    (ap (λ (l : List ℕ). line (codes "collision") ++ (line (encode_with lower_digits c.in-Collision.ours) ++ l)) (sym (append-nil (line (encode_with lower_digits c.in-Collision.theirs)))) ∙ ap (λ (a : Rebuttal). concat (answer_lines (answer_view a))) (sym c.in-Collision.is)) c.collision_text.ensures
