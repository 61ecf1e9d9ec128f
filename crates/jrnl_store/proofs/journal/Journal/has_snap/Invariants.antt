use Rattle.std.proofs.Common.{◌≤◌, ◌≡◌, ◌-◌, ◌^◌, List, ℕ, IfSome}
use Rattle.journal_model.specs.Standing.{IsLow}
use Rattle.jrnl_part.specs.Views.{bounds_view, standing_view}
use Rattle.jrnl_store.specs.Kept.{kept}
use Rattle.jrnl_store.proofs.Seeking.{Seeks}
use Rattle.jrnl_store.proofs.journal.Journal.has_snap.Given as goal

abbrev pub invariant-loop-is_snap : goal.invariant-loop-is_snap
invariant-loop-is_snap g l = record {
  told : IfSome (g.D.Disk.seen l.fn.disk) (Seeks (kept l.fn.self) l.cursor l.fn.number);
  low : IsLow (bounds_view l.self.bounds) (standing_view l.cursor.stand);
  stays : kept l.self ≡ kept l.fn.self;
  same : g.D.Disk.seen l.disk ≡ g.D.Disk.seen l.fn.disk;
  crash : (c : List ℕ) → g.D.Disk.may_leave l.disk c → g.D.Disk.may_leave l.fn.disk c;
  later : g.D.Disk.moment l.fn.disk ≤ g.D.Disk.moment l.disk;
  moments : (t : ℕ) (c : List ℕ) → t ≤ g.D.Disk.moment l.fn.disk → g.D.Disk.left_since l.disk t c → g.D.Disk.left_since l.fn.disk t c;
  faults : g.D.Disk.faults l.disk ≡ g.D.Disk.faults l.fn.disk;
}

abbrev pub decreases-loop-is_snap : goal.decreases-loop-is_snap
decreases-loop-is_snap g l = 2 ^ 30 - l.cursor.place
