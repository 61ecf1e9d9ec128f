use Rattle.std.proofs.Common.{refl, ap, ◌∙◌}
use Rattle.jrnl_store.specs.Kept.{Kept, kept}
use Rattle.rebut_pass.proofs.OnDisk.{of_whole}
use Rattle.base_survey.proofs.Places.{fresh, place_is}
use Rattle.base_survey.proofs.placing.read_place.Goals as goal

pub returns-in-Ok-clause-place : goal.returns-in-Ok-clause-place
returns-in-Ok-clause-place g c =
    of_whole (g.D.Disk.seen c.args.disk.now) (kept c.args.journal.now) _ _ (λ j fits keeps t.
    place_is j (kept c.args.journal.now) c.args.number c.bound.result _ c.read_all.new.pass _ fits keeps (ap (fresh c.args.number) c.before-2.ensures) t refl refl (c.bound.ensures ∙ ap (λ (k : Kept). k.standing.used) c.in-Ok.ensures.kept) c.saturating_sub.ensures) c.in-Ok.ensures.taken
