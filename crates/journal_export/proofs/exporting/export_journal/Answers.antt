use Rattle.std.proofs.Common.{ap, ◌∙◌}
use Rattle.avm_model.specs.Memory.{RamState}
use Rattle.jrnl_store.specs.Kept.{kept}
use Rattle.rebut_pass.proofs.OnDisk.{of_as, of_both}
use Rattle.journal_export.proofs.Judged.{written_is}
use Rattle.journal_export.proofs.exporting.export_journal.Goals as goal

pub returns-in-Ok-write_segment-clause-exports : goal.returns-in-Ok-write_segment-clause-exports
returns-in-Ok-write_segment-clause-exports g c =
    let told = g.D.Disk.seen c.args.disk.now in
    let k = kept c.args.journal in
    of_both told k _ _ _ (λ j o w. written_is j c.args.from c.args.to c.in-Ok.snapshot c.bytes.result.now c.bytes-pages.result.now _ _ o (c.bytes.ensures ∙ c.in-Ok-prepare.ensures.front) (c.bytes-pages.ensures.value ∙ ap (λ (r : RamState). r.bytes) c.ram.ensures) c.in-Ok-prepare.ensures.whole w)
    c.in-Ok.ensures.judges (of_as told _ k _ _ c.in-Ok.ensures.reads.same c.in-Ok.ensures.kept c.in-Ok-write_segment.ensures.written)
