use Rattle.std.proofs.Common.{◌≡◌, ◌∙◌, refl}
use Rattle.command_parts.specs.Printing.{line}
use Rattle.hss_command.specs.Ends.{status_of, text_of}
use Rattle.hss_command.specs.Outcomes.{Ended}
use Rattle.hss_command.proofs.finishing.finish.Goals as goal

pub returns-in-Ok : goal.returns-in-Ok
returns-in-Ok g c =
    let bytes : c.as_bytes.result.now ≡ line (text_of c.in-Ok.said.end) = c.as_bytes.ensures.value ∙ rw c.in-Ok.is at c.requires.said in
    let status : c.status.result ≡ status_of c.in-Ok.said.end = c.status.ensures in
    (Ended c.in-Ok.said.end, rw c.in-Ok.is refl, rw (bytes, status) at c.print_last.ensures)
