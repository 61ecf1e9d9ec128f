use Rattle.std.proofs.Common.{List, sym, subst}
use Rattle.avm_num.specs.Bytes.{IsBytes}
use Rattle.avm_outside.specs.DiskLog.{KeptCall, IsRun, IsImage, state_upto}
use Rattle.avm_outside.proofs.DiskLogs.{run_starts}
use Rattle.avm_outside.proofs.DiskCrashes.{settled_only}
use Rattle.avm_outside.proofs.mem_disk.MemDisk.set_image.Goals as goal

pub invariant_of-drop-clause-run : goal.invariant_of-drop-clause-run
invariant_of-drop-clause-run c = subst (λ (l : List KeptCall). IsRun c.args.image.items 0 l c.args.image.items) (sym c.new.ensures.items) (run_starts c.args.image.items 0)

pub returns-clause-state : goal.returns-clause-state
returns-clause-state c = λ calls left image. settled_only c.args.image.items calls left (subst (λ (l : List KeptCall). IsImage (state_upto c.args.image.items calls l) left) c.new.ensures.items image)

pub invariant_of-drop-clause-bytes_are : goal.invariant_of-drop-clause-bytes_are
invariant_of-drop-clause-bytes_are c = subst IsBytes c.deref.ensures.value c.are_bytes.ensures
