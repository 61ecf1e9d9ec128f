use Rattle.std.proofs.Common.{Err, Option}
use Rattle.rebuttal.specs.declared.seen.Seen.{Seen}
use Rattle.evid_file.specs.Views.{evidence_view}
use Rattle.jrnl_store.specs.Kept.{kept}
use Rattle.rebuttal.specs.Answers.{RebutAnswers}
use Rattle.rebuttal.specs.declared.fault.RebutFault.TheVariants as fault
use Rattle.rebuttal.proofs.Last.{read_told, none_seen, reading_answers, reading_counts}
use Rattle.rebuttal.proofs.rebutting.rebut.Goals as goal

pub returns-in-Ok-Some-clause-answers : goal.returns-in-Ok-Some-clause-answers
returns-in-Ok-Some-clause-answers g c =
    read_told (g.D.Disk.seen c.args.disk.now) (g.D.Disk.seen c.see.new.disk) (kept c.args.journal.now) (kept c.see.new.journal) (evidence_view c.args.evidence.now) c.in-Ok-Some.field-0 c.in-Ok-Some.seen (λ s j. RebutAnswers s j (evidence_view c.args.evidence.now) c.judged.result)
    c.in-Ok-Some.ensures.reads.same c.in-Ok-Some.ensures.kept c.in-Ok-Some.field-0-is c.in-Ok-Some.ensures.seen c.judged.ensures.answers

pub returns-in-Ok-None-clause-answers : goal.returns-in-Ok-None-clause-answers
returns-in-Ok-None-clause-answers g c = none_seen _ (kept c.args.journal.now) (evidence_view c.args.evidence.now) c.in-Ok-None.field-0 (λ s j. RebutAnswers s j (evidence_view c.args.evidence.now) (Err (fault.Unreplayed c.first.result))) c.in-Ok-None.field-0-is c.in-Ok-None.ensures.seen

pub returns-in-Err-clause-answers : goal.returns-in-Err-clause-answers
returns-in-Err-clause-answers g c = reading_answers _ (kept c.args.journal.now) (evidence_view c.args.evidence.now) c.in-Err.fault c.read_fault.result c.read_fault.ensures

pub returns-in-Err-clause-faults : goal.returns-in-Err-clause-faults
returns-in-Err-clause-faults g c = reading_counts (Option Seen) _ _ c.in-Err.fault c.read_fault.result c.read_fault.ensures c.in-Err.ensures.faults
