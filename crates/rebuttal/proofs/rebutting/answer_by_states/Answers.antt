use Rattle.std.proofs.Common.{Err, Option}
use Rattle.rebut_texts.specs.declared.bytes.Found.{Found}
use Rattle.evid_file.specs.Views.{evidence_view}
use Rattle.jrnl_store.specs.Kept.{kept}
use Rattle.rebuttal.specs.Answers.{RebutAnswers}
use Rattle.rebuttal.specs.declared.fault.RebutFault.TheVariants as fault
use Rattle.rebuttal.proofs.Last.{states_some, states_none, reading_undecided, reading_counts}
use Rattle.rebuttal.proofs.rebutting.answer_by_states.Goals as goal

pub returns-in-Ok-Some-clause-answers : goal.returns-in-Ok-Some-clause-answers
returns-in-Ok-Some-clause-answers g c = states_some _ (kept c.args.journal.now) (evidence_view c.args.evidence.now) c.in-Ok-Some.field-0 c.in-Ok-Some.found c.in-Ok-Some.field-0-is c.in-Ok-Some.ensures.value

pub returns-in-Ok-None-clause-answers : goal.returns-in-Ok-None-clause-answers
returns-in-Ok-None-clause-answers g c = states_none _ (kept c.args.journal.now) (evidence_view c.args.evidence.now) c.in-Ok-None.field-0 (λ s j. RebutAnswers s j (evidence_view c.args.evidence.now) (Err (fault.Unreplayed c.first.result))) c.in-Ok-None.field-0-is c.in-Ok-None.ensures.value

pub returns-in-Err-clause-answers : goal.returns-in-Err-clause-answers
returns-in-Err-clause-answers g c = reading_undecided _ (kept c.args.journal.now) (evidence_view c.args.evidence.now) c.in-Err.fault c.read_fault.result c.read_fault.ensures

pub returns-in-Err-clause-faults : goal.returns-in-Err-clause-faults
returns-in-Err-clause-faults g c = reading_counts (Option Found) _ _ c.in-Err.fault c.read_fault.result c.read_fault.ensures c.in-Err.ensures.faults
