use Rattle.std.proofs.Common.{subst, ap, ◌∙◌, unwrap_or, option_map}
use Rattle.avm_num.specs.Bytes.{IsBytes}
use Rattle.avm_outside.proofs.DiskLogs.{run_changed}
use Rattle.avm_outside.proofs.mem_disk.MemDisk.write.Goals as goal

pub invariant_of-self-2-clause-run : goal.invariant_of-self-2-clause-run
invariant_of-self-2-clause-run c =
    run_changed c.change-result.result _ _ _ _ _ _ _ _ _ _ c.args.self.now.run c.requires.within c.in_ok-event.ensures (c.in_ok-now.ensures.bytes ∙ ap (λ b. unwrap_or (option_map (λ v. v.items) c.args.self.now.changed) b) c.deref.ensures.value) c.change-result.ensures.bytes c.change-result.ensures.log c.change-result.ensures.same c.change-result.ensures.same_log

pub invariant_of-self-2-clause-bytes_are : goal.invariant_of-self-2-clause-bytes_are
invariant_of-self-2-clause-bytes_are c = subst IsBytes c.deref-2.ensures.value c.are_bytes.ensures
