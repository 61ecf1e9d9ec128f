use Rattle.evid_file.specs.Views.{evidence_view}
use Rattle.jrnl_store.specs.Kept.{kept}
use Rattle.rebuttal.specs.Answers.{RebutAnswers}
use Rattle.rebuttal.proofs.Last.{fault_told, replayed_told}
use Rattle.rebuttal.proofs.rebutting.judged.Goals as goal

pub returns-in-Some-clause-answers : goal.returns-in-Some-clause-answers
returns-in-Some-clause-answers g c = fault_told _ (kept c.args.journal.now) (evidence_view c.args.evidence.now) c.args.seen c.in-Some.number c.in-Some.is

pub returns-in-None-clause-answers : goal.returns-in-None-clause-answers
returns-in-None-clause-answers g c = replayed_told _ (kept c.args.journal.now) (evidence_view c.args.evidence.now) c.args.seen (λ s j. RebutAnswers s j (evidence_view c.args.evidence.now) c.covered.result) c.in-None.is c.covered.ensures.answers
