use Rattle.std.proofs.Common.{refl, ◌∙◌}
use Rattle.jrnl_store.specs.Kept.{kept}
use Rattle.rebut_pass.proofs.OnDisk.{of_whole}
use Rattle.journal_export.proofs.Surveyed.{survey_of, surveyed_first}
use Rattle.journal_export.proofs.surveying.read_survey.Goals as goal

pub returns-in-Ok-clause-surveyed : goal.returns-in-Ok-clause-surveyed
returns-in-Ok-clause-surveyed g c =
    of_whole (g.D.Disk.seen c.args.disk.now) (kept c.args.journal.now) _ _ (λ j fits keeps t.
    survey_of j c.args.from c.args.to _ c.read_all.new.pass c.new.ensures.from c.new.ensures.to (surveyed_first j.header.before _ (c.new.ensures.cut j.header.before) (c.before-2.ensures ∙ keeps.before) refl refl refl) t) c.in-Ok.ensures.taken
