use Rattle.std.proofs.Common.{◌≡◌, sym, subst, ◌∙◌}
use Rattle.jrnl_store.specs.Kept.{Kept, kept}
use Rattle.jrnl_store.specs.Own.{AreKept}
use Rattle.rebut_pass.proofs.OnDisk.{of_as, of_both, of_whole}
use Rattle.stretch_replay.specs.Stretched.{IsStretched}
use Rattle.journal_export.specs.Survey.{IsSurveyOf}
use Rattle.journal_export.proofs.Judged.{fits_some, judged}
use Rattle.journal_export.proofs.judging.judge_entries.Goals as goal

pub returns-clause-judges : goal.returns-clause-judges
returns-clause-judges g c =
    let told = g.D.Disk.seen c.args.disk.now in
    let k = kept c.args.journal.now in
    of_whole told k (λ j. (c.args.head.bytes ≡ j.header.head → IsStretched j c.args.from c.in-Ok.read) × IsSurveyOf j c.args.from c.args.to c.in-Ok-read_survey.survey) _ (λ j fits keeps p same.
    judged (kept c.read_survey.new.journal) j c.args.from c.args.to c.last.result c.in-Ok.read c.in-Ok-read_survey.survey c.take_snapshot.result fits (subst (λ (x : Kept). AreKept x j) (sym (c.in-Ok-read_survey.ensures.kept ∙ c.in-Ok.ensures.kept)) keeps) c.last.ensures.value
    (fits_some c.args.journal.now.bounds.pages c.args.head.bytes j c.requires.fits same) (p.0 same) p.1 c.take_snapshot.ensures)
    (of_both told k _ _ _ (λ j a b. (a, b)) c.in-Ok.ensures.stretched (of_as told _ k _ _ c.in-Ok.ensures.reads.same c.in-Ok.ensures.kept c.in-Ok-read_survey.ensures.surveyed))
