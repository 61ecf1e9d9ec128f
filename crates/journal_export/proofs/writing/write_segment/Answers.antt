use Rattle.jrnl_store.specs.Kept.{kept}
use Rattle.rebut_pass.proofs.OnDisk.{of_map}
use Rattle.journal_export.proofs.Wrote.{segment_written}
use Rattle.journal_export.proofs.writing.write_segment.Goals as goal

pub returns-in-Ok-clause-written : goal.returns-in-Ok-clause-written
returns-in-Ok-clause-written g c =
    of_map (g.D.Disk.seen c.args.disk.now) (kept c.args.journal.now) _ _ (λ j t.
    segment_written j c.args.from c.args.to c.new-cut.result _ _ _ _ _ _ _ _ _ c.new-cut.ensures.from c.new-cut.ensures.to (c.new-cut.ensures.cut j.header.before) c.in_default.ensures.holds t c.in-Ok.ensures.adds c.in-Ok.ensures.empty) c.in_default-write_entries.ensures.writes
