use Rattle.avm_outside.proofs.DiskLogs.{run_kept}
use Rattle.avm_outside.proofs.mem_disk.MemDisk.keep.Goals as goal

pub invariant_of-self-clause-run : goal.invariant_of-self-clause-run
invariant_of-self-clause-run c = run_kept c.keep.result _ _ _ _ _ c.args.event c.args.self.now.run c.requires.number c.requires.quiet c.keep.ensures.log c.keep.ensures.same
