use Rattle.avm_outside.proofs.DiskLogs.{run_more}
use Rattle.avm_outside.proofs.mem_disk.MemDisk.count.Goals as goal

pub invariant_of-self-clause-run : goal.invariant_of-self-clause-run
invariant_of-self-clause-run c = run_more _ _ _ _ _ c.args.self.now.run c.count.ensures.rises
