use Rattle.std.proofs.Common.{◌≡◌, ◌≢◌, ℕ, List, IfSome}
use Rattle.journal_model.specs.Standing.{IsLow}
use Rattle.jrnl_part.specs.Views.{bounds_view, standing_view}
use Rattle.jrnl_store.specs.Items.{moves_left}
use Rattle.jrnl_store.specs.Kept.{kept}
use Rattle.rebut_pass.specs.Reads.{OnlyReads}
use Rattle.rebut_pass.proofs.Passes.{Sofar}
use Rattle.journal_export.specs.Writing.{Writes, writing}
use Rattle.journal_export.proofs.writing.write_entries.Given as goal

abbrev pub invariant-loop-held : goal.invariant-loop-held
invariant-loop-held g l = record {
  told : IfSome (g.D.Disk.seen l.fn.disk) (Sofar Writes (kept l.fn.journal) l.cursor (writing l.fn.cut l.fn.draft.room.bytes (g.F.Files.file l.fn.files l.fn.name)) (writing l.cut l.draft.room.bytes (g.F.Files.file l.files l.fn.name)));
  low : IsLow (bounds_view l.journal.bounds) (standing_view l.cursor.stand);
  stays : kept l.journal ≡ kept l.fn.journal;
  reads : OnlyReads g.D.Disk.seen g.D.Disk.may_leave g.D.Disk.moment g.D.Disk.left_since l.fn.disk l.disk;
  others : (n : List ℕ) → n ≢ l.fn.name → g.F.Files.file l.files n ≡ g.F.Files.file l.fn.files n;
  faults : g.D.Disk.faults l.disk ≡ g.D.Disk.faults l.fn.disk;
  counts : g.F.Files.faults l.files ≡ g.F.Files.faults l.fn.files;
}

abbrev pub decreases-loop-held : goal.decreases-loop-held
decreases-loop-held g l = moves_left l.cursor
