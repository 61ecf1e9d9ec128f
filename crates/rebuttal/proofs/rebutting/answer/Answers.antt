use Rattle.std.proofs.Common.{sym}
use Rattle.evid_file.specs.Views.{evidence_view}
use Rattle.jrnl_store.specs.Kept.{kept}
use Rattle.rebuttal.specs.Answers.{RebutAnswers}
use Rattle.rebuttal.proofs.Last.{forged_told, texts_told}
use Rattle.rebuttal.proofs.rebutting.answer.Goals as goal

pub returns-in-Some-clause-answers : goal.returns-in-Some-clause-answers
returns-in-Some-clause-answers g c = forged_told _ (kept c.args.journal.now) (evidence_view c.args.evidence.now) c.args.seen c.in-Some.number c.requires.fits c.requires.holds (sym c.in-Some.ensures)

pub returns-in-None-clause-answers : goal.returns-in-None-clause-answers
returns-in-None-clause-answers g c =
    texts_told _ (kept c.args.journal.now) (evidence_view c.args.evidence.now) c.args.seen (λ s j. RebutAnswers s j (evidence_view c.args.evidence.now) c.answer_by_texts.result) c.requires.fits c.requires.holds (sym c.in-None.ensures) c.answer_by_texts.ensures.answers
