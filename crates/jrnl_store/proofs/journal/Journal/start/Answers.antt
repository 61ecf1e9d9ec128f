use Rattle.std.proofs.Common.{refl}
use Rattle.jrnl_store.specs.Kept.{kept}
use Rattle.jrnl_store.proofs.Given.{starts}
use Rattle.jrnl_store.proofs.Carriages.{starts_before}
use Rattle.jrnl_store.proofs.journal.Journal.start.Goals as goal

pub returns-clause-parts : goal.returns-clause-parts
returns-clause-parts c = λ was j o. starts (kept c.args.self.now) was j _ o refl refl

pub returns-clause-left : goal.returns-clause-left
returns-clause-left c = λ was j o. starts_before (kept c.args.self.now) was j _ o refl (starts (kept c.args.self.now) was j _ o refl refl)
