use Rattle.std.proofs.Common.{◌≡◌, ◌≤◌, List, None, length}
use Rattle.command_parts.specs.Printing.{Prints}
use Rattle.jrnl_store.specs.Kept.{kept as kept_of}
use Rattle.record_model.specs.Recorded.{Drop}
use Rattle.record_run.proofs.Telling.{SoFar}
use Rattle.record_run.specs.Feeds.{sure_agenda}
use Rattle.record_run.specs.Lines.{drop_lines}
use Rattle.record_run.specs.Runs.{sender_of}
use Rattle.record_store.specs.Open.{IsSame}
use Rattle.record_turn.specs.Desk.{rows_of}
use Rattle.recorder.specs.Recorder.{stop_of}
use Rattle.record_run.proofs.running.turns.Given as goal

abbrev pub invariant-loop-made : goal.invariant-loop-made
invariant-loop-made g l = record {
  open_still : stop_of l.recorder ≡ None;
  key : l.recorder.desk.press.key ≡ l.initial.recorder.desk.press.key;
  same : IsSame (kept_of l.initial.recorder.desk.store.journal) (kept_of l.recorder.desk.store.journal);
  disk : g.D.Disk.faults l.disk ≡ g.D.Disk.faults l.initial.disk;
  outlet : g.O.Outlet.faults l.outlet ≡ g.O.Outlet.faults l.initial.outlet;
  loan : g.O.Outlet.loan l.outlet ≡ g.O.Outlet.loan l.initial.outlet;
  most : l.drops ≤ l._made;
  so_far : (ds : List Drop) × (l.drops ≡ length ds) × Prints (drop_lines ds) (g.S.Sink.faults l.initial.out) (g.S.Sink.faults l.out) (g.S.Sink.written l.initial.out) (g.S.Sink.written l.out)
      × SoFar g.D.Disk.seen g.D.Disk.may_leave g.D.Disk.moment g.D.Disk.left_since g.O.Outlet.adding g.O.Outlet.tearing (sender_of l.initial.recorder.desk) l.initial.disk (kept_of l.initial.recorder.desk.store.journal) (rows_of l.initial.recorder.desk.kept)
      l.initial.recorder.desk.store.batch.parts (sure_agenda l.initial.feed) l.initial.recorder.desk.machine.state (g.O.Outlet.held l.initial.outlet) l.disk (kept_of l.recorder.desk.store.journal) (rows_of l.recorder.desk.kept) l.recorder.desk.store.batch.parts l.recorder.desk.machine.state l._made ds (g.O.Outlet.held l.outlet) (sure_agenda l.feed);
}
