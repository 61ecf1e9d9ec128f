use Rattle.std.proofs.Common.{◌∙◌, Some, None}
use Rattle.log_entry.specs.Views.{content_view}
use Rattle.list_command.proofs.Parts.{number_is}
use Rattle.list_command.proofs.numbers.message_number.Goals as goal

pub returns-in-Some : goal.returns-in-Some
returns-in-Some c = c.number_in.ensures ∙ number_is c.args.bytes.now (Some (content_view c.in-Some.content)) c.in-Some.ensures.exact

pub returns-in-None : goal.returns-in-None
returns-in-None c = number_is c.args.bytes.now None c.in-None.ensures.exact
