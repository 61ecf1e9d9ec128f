use Rattle.evid_file.specs.Views.{evidence_view}
use Rattle.jrnl_store.specs.Kept.{kept}
use Rattle.rebuttal.specs.Answers.{RebutAnswers}
use Rattle.rebuttal.proofs.Last.{texts_some, texts_none}
use Rattle.rebuttal.proofs.rebutting.answer_by_texts.Goals as goal

pub returns-in-Some-clause-answers : goal.returns-in-Some-clause-answers
returns-in-Some-clause-answers g c = texts_some _ (kept c.args.journal.now) (evidence_view c.args.evidence.now) c.args.found c.in-Some.found c.in-Some.is

pub returns-in-None-clause-answers : goal.returns-in-None-clause-answers
returns-in-None-clause-answers g c =
    texts_none _ (kept c.args.journal.now) (evidence_view c.args.evidence.now) c.args.found (λ s j. RebutAnswers s j (evidence_view c.args.evidence.now) c.answer_by_states.result) c.in-None.is c.answer_by_states.ensures.answers
