use Rattle.std.proofs.Common.{◌≡◌, ◌∷◌, [], ◌∙◌, refl}
use Rattle.command_parts.specs.Printing.{line}
use Rattle.list_command.specs.Ends.{status_of, text_of, end_lines}
use Rattle.list_command.specs.Outcomes.{Ended}
use Rattle.list_command.proofs.Ending.{lines_are}
use Rattle.list_command.proofs.finishing.print_end.Goals as goal

pub returns-in-Ok : goal.returns-in-Ok
returns-in-Ok g c =
    let bytes : c.as_bytes.result.now ≡ line (text_of c.args.end) = c.as_bytes.ensures.value ∙ c.in-Ok.ensures in
    let status : c.status.result ≡ status_of c.args.end = c.status.ensures in
    let lines : end_lines c.args.end ≡ line (text_of c.args.end) ∷ [] = lines_are c.args.end c.requires in
    let shown = rw (bytes, status) at c.print_last.ensures in
    (Ended c.args.end, refl, rw lines shown)
