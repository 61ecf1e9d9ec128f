use Rattle.std.proofs.Common.{refl}
use Rattle.jrnl_store.specs.Kept.{kept}
use Rattle.rebut_pass.proofs.OnDisk.{of_as, of_both}
use Rattle.base_carried.proofs.Picked.{is_carried}
use Rattle.base_carried.proofs.reading.read_carried.Goals as goal

pub returns-in-Ok-read_all-clause-carried : goal.returns-in-Ok-read_all-clause-carried
returns-in-Ok-read_all-clause-carried g c =
    let told = g.D.Disk.seen c.args.disk.now in
    let k = kept c.args.journal.now in
    of_both told k _ _ _ (λ j found t spelled. is_carried j c.args.number c.args.peers.now c.in-Ok.rows.items _ c.read_all.new.pass _ spelled found refl refl refl c.new.ensures.items t refl refl)
    c.in-Ok.ensures.found (of_as told _ k _ _ c.in-Ok.ensures.reads.same c.in-Ok.ensures.kept c.in-Ok-read_all.ensures.taken)
