use Rattle.evid_file.specs.Views.{evidence_view}
use Rattle.jrnl_store.specs.Kept.{kept}
use Rattle.rebuttal.specs.Answers.{RebutAnswers}
use Rattle.rebuttal.proofs.Last.{asked_told, uncovered_told}
use Rattle.rebuttal.proofs.rebutting.covered.Goals as goal

pub returns-then-covers-clause-answers : goal.returns-then-covers-clause-answers
returns-then-covers-clause-answers g c =
    asked_told _ (kept c.args.journal.now) (evidence_view c.args.evidence.now) c.args.seen c.covers.result (λ s j. RebutAnswers s j (evidence_view c.args.evidence.now) c.answer.result) c.if-covers.true c.covers.ensures c.answer.ensures.answers

pub returns-else-covers-clause-answers : goal.returns-else-covers-clause-answers
returns-else-covers-clause-answers g c = uncovered_told _ (kept c.args.journal.now) (evidence_view c.args.evidence.now) c.args.seen c.covers.result c.if-covers.false c.covers.ensures
