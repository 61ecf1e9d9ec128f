use Rattle.std.proofs.Common.{refl}
use Rattle.jrnl_store.specs.Kept.{kept}
use Rattle.rebut_pass.proofs.OnDisk.{of_map}
use Rattle.stretch_replay.proofs.Running.{are_run}
use Rattle.stretch_replay.proofs.stretching.run.Goals as goal

pub returns-in-Ok-clause-run : goal.returns-in-Ok-clause-run
returns-in-Ok-clause-run g c = of_map (g.D.Disk.seen c.args.disk.now) (kept c.args.journal.now) _ _ (λ j t. are_run j _ c.read_all.new.pass t refl) c.in-Ok.ensures.taken
