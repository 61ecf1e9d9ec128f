use Rattle.jrnl_store.specs.Kept.{kept}
use Rattle.sample_judge.proofs.Counted.{stands_on}
use Rattle.sample_judge.proofs.numbers.open_journal.Goals as goal

pub returns-in-Ok-clause-on : goal.returns-in-Ok-clause-on
returns-in-Ok-clause-on c j stands = stands_on (kept c.in-Ok.journal) _ _ _ j (let e = c.in-Ok.ensures.same in cc) stands c.in-Ok.ensures.answers
