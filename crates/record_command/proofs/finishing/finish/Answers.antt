use Rattle.std.proofs.Common.{◌≡◌, rules}
use Rattle.command_parts.specs.Printing.{line}
use Rattle.record_command.specs.Ends.{status_of, text_of}
use Rattle.record_command.specs.Outcomes.{Ended}
use Rattle.record_command.proofs.finishing.finish.Goals as goal

pub returns-in-Ok-clause-line : goal.returns-in-Ok-clause-line
returns-in-Ok-clause-line g c =
    let bytes : c.as_bytes.result.now ≡ line (text_of c.in-Ok.end) = search rules in
    let status : c.status.result ≡ status_of c.in-Ok.end = c.status.ensures in
    let shown = rw (bytes, status) at c.print_last.ensures in
    λ sink. (Ended c.in-Ok.end, search rules, shown)
