use Rattle.std.proofs.Common.{◌≡◌, IfSome}
use Rattle.journal_model.specs.Standing.{IsLow}
use Rattle.jrnl_part.specs.Views.{bounds_view, standing_view}
use Rattle.jrnl_store.specs.Items.{moves_left}
use Rattle.jrnl_store.specs.Kept.{kept}
use Rattle.rebut_pass.specs.Reads.{OnlyReads}
use Rattle.rebut_pass.proofs.Passes.{Sofar}
use Rattle.open_pass.proofs.pass.read_all.Given as goal

abbrev pub invariant-loop-held : goal.invariant-loop-held
invariant-loop-held g l = record {
  told : IfSome (g.D.Disk.seen l.fn.disk) (Sofar g.P.Pass.takes (kept l.fn.journal) l.cursor l.fn.pass l.pass);
  low : IsLow (bounds_view l.journal.bounds) (standing_view l.cursor.stand);
  most : g.P.Pass.most l.pass ≡ g.P.Pass.most l.fn.pass;
  stays : kept l.journal ≡ kept l.fn.journal;
  reads : OnlyReads g.D.Disk.seen g.D.Disk.may_leave g.D.Disk.moment g.D.Disk.left_since l.fn.disk l.disk;
  faults : g.D.Disk.faults l.disk ≡ g.D.Disk.faults l.fn.disk;
}

abbrev pub decreases-loop-held : goal.decreases-loop-held
decreases-loop-held g l = moves_left l.cursor
