use Rattle.std.proofs.Common.{◌≡◌, refl, sym, ap, subst, ◌∙◌}
use Rattle.avm_model.specs.HeadReading.{head_of}
use Rattle.jrnl_store.specs.Kept.{Kept, kept}
use Rattle.jrnl_store.specs.Own.{AreKept}
use Rattle.jrnl_store.specs.Items.{items_in}
use Rattle.keep_judge.proofs.Goodness.{page_power}
use Rattle.open_keeps.specs.Search.{Seeks}
use Rattle.rebut_pass.specs.Passing.{Takes}
use Rattle.rebut_pass.proofs.OnDisk.{of_as, of_both, of_whole}
use Rattle.stretch_replay.proofs.Sought.{are_sought}
use Rattle.stretch_replay.proofs.searching.search.Goals as goal

pub header_ram-requires : goal.header_ram-requires
header_ram-requires g c = record { power = page_power c.args.journal.now.bounds.pages (head_of c.args.head.bytes) c.args.head.bytes refl c.requires.fits }

pub returns-in-Ok-read_all-clause-sought : goal.returns-in-Ok-read_all-clause-sought
returns-in-Ok-read_all-clause-sought g c =
    let told = g.D.Disk.seen c.args.disk.now in
    let k = kept c.args.journal.now in
    of_whole told k (λ j. (c.in-Ok.ram.bytes ≡ j.header.pages) × Takes Seeks c.in-Ok-start.search (items_in j) c.read_all.new.pass) _ (λ j fits keeps p head.
    are_sought k j c.args.number c.in-Ok-start.search c.read_all.new.pass fits keeps (c.in-Ok-start.ensures.count ∙ ap (λ (x : Kept). x.bounds.pages) c.in-Ok.ensures.kept)
    (c.in-Ok-start.ensures.sought j (subst (λ (x : Kept). AreKept x j) (sym c.in-Ok.ensures.kept) keeps) head p.0) p.1)
    (of_both told k _ _ _ (λ j a b. (a, b)) c.in-Ok.ensures.pages (of_as told _ k _ _ c.in-Ok.ensures.reads.same c.in-Ok.ensures.kept c.in-Ok-read_all.ensures.taken))
