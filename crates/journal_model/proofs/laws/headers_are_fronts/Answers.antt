use Rattle.journal_model.proofs.Locals.{header_stands}
use Rattle.journal_model.proofs.laws.headers_are_fronts.Goals as goal

pub returns : goal.returns
returns c bytes h rest e = header_stands bytes (h, rest) e
