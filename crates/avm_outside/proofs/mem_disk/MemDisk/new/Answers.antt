use Rattle.std.proofs.Common.{[], List, ℕ, sym, subst}
use Rattle.avm_outside.specs.DiskLog.{KeptCall, IsRun, IsImage, state_upto}
use Rattle.avm_outside.proofs.DiskLogs.{run_starts}
use Rattle.avm_outside.proofs.DiskCrashes.{settled_left, settled_only}
use Rattle.avm_outside.proofs.mem_disk.MemDisk.new.Goals as goal

pub invariant_of-result-clause-run : goal.invariant_of-result-clause-run
invariant_of-result-clause-run c = subst (λ (l : List KeptCall). IsRun c.new.result.items c.new-3.result.calls l c.new.result.items) (sym c.new-2.ensures.items) (run_starts c.new.result.items c.new-3.result.calls)

pub returns-clause-state : goal.returns-clause-state
returns-clause-state c = λ calls.
    subst (λ (b : List ℕ). IsImage (state_upto b calls c.new-2.result.items) []) (sym c.new.ensures.items)
    (subst (λ (l : List KeptCall). IsImage (state_upto [] calls l) []) (sym c.new-2.ensures.items) (settled_left [] calls))

pub returns-clause-only : goal.returns-clause-only
returns-clause-only c = λ calls left image.
    settled_only [] calls left (subst (λ (l : List KeptCall). IsImage (state_upto [] calls l) left) c.new-2.ensures.items
    (subst (λ (b : List ℕ). IsImage (state_upto b calls c.new-2.result.items) left) c.new.ensures.items image))
