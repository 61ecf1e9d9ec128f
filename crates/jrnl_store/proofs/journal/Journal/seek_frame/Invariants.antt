use Rattle.std.proofs.Common.{◌≤◌, ◌≡◌, List, ℕ, IfSome}
use Rattle.journal_model.specs.Standing.{IsLow}
use Rattle.jrnl_part.specs.Views.{bounds_view, standing_view}
use Rattle.jrnl_store.specs.Items.{moves_left}
use Rattle.jrnl_store.specs.Kept.{kept}
use Rattle.jrnl_store.proofs.Framing.{Sofar}
use Rattle.jrnl_store.proofs.journal.Journal.seek_frame.Given as goal

abbrev pub invariant-loop-held : goal.invariant-loop-held
invariant-loop-held g l = record {
  told : IfSome (g.D.Disk.seen l.fn.disk) (Sofar (kept l.fn.self) l.cursor l.number);
  low : IsLow (bounds_view l.self.bounds) (standing_view l.cursor.stand);
  stays : kept l.self ≡ kept l.fn.self;
  same : g.D.Disk.seen l.disk ≡ g.D.Disk.seen l.fn.disk;
  crash : (c : List ℕ) → g.D.Disk.may_leave l.disk c → g.D.Disk.may_leave l.fn.disk c;
  later : g.D.Disk.moment l.fn.disk ≤ g.D.Disk.moment l.disk;
  moments : (t : ℕ) (c : List ℕ) → t ≤ g.D.Disk.moment l.fn.disk → g.D.Disk.left_since l.disk t c → g.D.Disk.left_since l.fn.disk t c;
  faults : g.D.Disk.faults l.disk ≡ g.D.Disk.faults l.fn.disk;
}

abbrev pub decreases-loop-held : goal.decreases-loop-held
decreases-loop-held g l = moves_left l.cursor
