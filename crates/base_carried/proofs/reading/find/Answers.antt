use Rattle.std.proofs.Common.{refl}
use Rattle.jrnl_store.specs.Kept.{kept}
use Rattle.rebut_pass.proofs.OnDisk.{of_map}
use Rattle.base_carried.proofs.Founds.{is_found}
use Rattle.base_carried.proofs.reading.find.Goals as goal

pub returns-in-Ok-read_all-clause-found : goal.returns-in-Ok-read_all-clause-found
returns-in-Ok-read_all-clause-found g c =
    of_map (g.D.Disk.seen c.args.disk.now) (kept c.args.journal.now) _ _ (λ j t. is_found j c.args.number c.args.peers.now _ c.read_all.new.pass refl c.in-Ok.ensures t) c.in-Ok-read_all.ensures.taken
