use Rattle.std.proofs.Common.{Err, ap}
use Rattle.format_command.proofs.files.config_of.Goals as goal

pub returns-in-Err-Refused : goal.returns-in-Err-Refused
returns-in-Err-Refused c = λ d t. c.in-Err-Refused.ensures.refused (ap (λ e. Err e) c.in-Err-Refused.field-0-is) d t.says
