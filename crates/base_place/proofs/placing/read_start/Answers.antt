use Rattle.std.proofs.Common.{refl, ap, ◌∙◌}
use Rattle.jrnl_store.specs.Kept.{Kept, kept}
use Rattle.rebut_pass.proofs.OnDisk.{of_whole}
use Rattle.base_place.proofs.Starts.{start_is}
use Rattle.base_place.proofs.placing.read_start.Goals as goal

pub returns-in-Ok-clause-start : goal.returns-in-Ok-clause-start
returns-in-Ok-clause-start g c =
    of_whole (g.D.Disk.seen c.args.disk.now) (kept c.args.journal.now) _ _ (λ j fits keeps t spelled head.
    start_is j (kept c.args.journal.now) _ c.read_all.new.pass c.args.head c.first.result c.page_count.result _ spelled keeps refl t (c.first.ensures ∙ ap (λ (k : Kept). k.bounds.first) c.in-Ok.ensures.kept) (c.page_count.ensures ∙ ap (λ (k : Kept). k.bounds.pages) c.in-Ok.ensures.kept) head c.start_of.ensures) c.in-Ok.ensures.taken
