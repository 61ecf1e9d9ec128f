use Rattle.std.proofs.Common.{ℕ, ◌<◌, ◌^◌, [], ◌++◌, refl, subst, ◌∙◌, arith}
use Rattle.avm_model.proofs.HeadBounds.{bounded}
use Rattle.avm_model.specs.HeadState.{data_of}
use Rattle.avm_model.specs.Machine.{MachineState}
use Rattle.jrnl_store.specs.Kept.{kept as kept_of}
use Rattle.record_run.proofs.Saying.{no_drops, none_more, one_more, prints_nothing, prints_on, says_over, says_stop}
use Rattle.record_run.proofs.Telling.{begins, drops_on, few_events, goes_on, is_over, is_stopped, never_used_up, same_on, so_far_desk}
use Rattle.record_run.specs.Feeds.{sure_agenda}
use Rattle.record_run.specs.Runs.{sender_of}
use Rattle.record_turn.specs.Desk.{rows_of}
use Rattle.record_run.proofs.Cutting.{cut_alike}
use Rattle.record_run.specs.declared.turning.Turned.{Turned}
use Rattle.record_run.proofs.running.turns.Goals as goal

pub loop-made-init : goal.loop-made-init
loop-made-init g c =
    let a = c.args.recorder.now in
    record {
      open_still = c.requires.open;
      key = refl;
      same = record { key = refl; bounds = refl; mark = refl };
      disk = refl;
      outlet = refl;
      loan = refl;
      most = omega arith;
      so_far = ([], refl, prints_nothing (g.S.Sink.faults c.args.out.now) (g.S.Sink.written c.args.out.now), begins g.D.Disk.seen g.D.Disk.may_leave g.D.Disk.moment g.D.Disk.left_since g.O.Outlet.adding g.O.Outlet.tearing (sender_of a.desk) c.args.disk.now (kept_of a.desk.store.journal) (rows_of a.desk.kept) a.desk.store.batch.parts (sure_agenda c.args.feed.now) a.desk.machine.state (g.O.Outlet.held c.args.outlet.now) (a.ready c.requires.open).opens.run refl (λ image left. g.met.D.Disk.only_now c.args.disk.now image left));
    }

pub turn_on-requires-clause-own : goal.turn_on-requires-clause-own
turn_on-requires-clause-own g c =
    let a = c.args.recorder.now in
    let l = c.loop-made in
    let b = l.recorder.desk in
    so_far_desk g.D.Disk.seen g.D.Disk.may_leave g.D.Disk.moment g.D.Disk.left_since g.O.Outlet.adding g.O.Outlet.tearing (sender_of a.desk) c.args.disk.now (kept_of a.desk.store.journal) (rows_of a.desk.kept) a.desk.store.batch.parts (sure_agenda c.args.feed.now) a.desk.machine.state (g.O.Outlet.held c.args.outlet.now) l.disk (kept_of b.store.journal) (rows_of b.kept) b.store.batch.parts b.machine.state l._made l.invariant.so_far.0 (g.O.Outlet.held l.outlet) (sure_agenda l.feed) c.requires.own l.invariant.so_far.3

pub returns-in-Ok-Over-clause-runs : goal.returns-in-Ok-Over-clause-runs
returns-in-Ok-Over-clause-runs g c =
    let a = c.args.recorder.now in
    let l = c.loop-made in
    let b = l.recorder.desk in
    let n = c.turn_on.new.recorder.desk in
    let i = l.invariant in
    let t = rw c.in-Ok-Over.field-0-is at c.in-Ok-Over.ensures.turn in
    (i.so_far.0 ++ t.0, says_over i.so_far.0 t.0 l.drops (g.S.Sink.faults c.args.out.now) (g.S.Sink.faults l.out) (g.S.Sink.faults c.turn_on.new.out) (g.S.Sink.written c.args.out.now) (g.S.Sink.written l.out) (g.S.Sink.written c.turn_on.new.out) i.so_far.1 i.so_far.2 t.1, is_over g.D.Disk.seen g.D.Disk.may_leave g.D.Disk.moment g.D.Disk.left_since g.O.Outlet.adding g.O.Outlet.tearing (sender_of a.desk) c.args.disk.now (kept_of a.desk.store.journal) (rows_of a.desk.kept) a.desk.store.batch.parts (sure_agenda c.args.feed.now) a.desk.machine.state (g.O.Outlet.held c.args.outlet.now) l.disk c.turn_on.new.disk (kept_of b.store.journal) (kept_of n.store.journal) (rows_of b.kept) (rows_of n.kept) b.press.key b.store.batch.parts n.store.batch.parts b.machine.state n.machine.state i.so_far.0 t.0 (g.O.Outlet.held l.outlet) (g.O.Outlet.held c.turn_on.new.outlet) (sure_agenda l.feed) (sure_agenda c.turn_on.new.feed) l._made i.key i.so_far.3 t.2 t.1.0)

pub returns-in-Err-clause-runs : goal.returns-in-Err-clause-runs
returns-in-Err-clause-runs g c =
    let a = c.args.recorder.now in
    let l = c.loop-made in
    let b = l.recorder.desk in
    let n = c.turn_on.new.recorder.desk in
    let i = l.invariant in
    let t = c.in-Err.ensures.turn in
    (i.so_far.0 ++ t.0, says_stop c.in-Err.stop i.so_far.0 t.0 (g.S.Sink.faults c.args.out.now) (g.S.Sink.faults l.out) (g.S.Sink.faults c.turn_on.new.out) (g.S.Sink.written c.args.out.now) (g.S.Sink.written l.out) (g.S.Sink.written c.turn_on.new.out) i.so_far.2 t.1, is_stopped g.D.Disk.seen g.D.Disk.may_leave g.D.Disk.moment g.D.Disk.left_since g.O.Outlet.adding g.O.Outlet.tearing (sender_of a.desk) c.args.disk.now (kept_of a.desk.store.journal) (rows_of a.desk.kept) a.desk.store.batch.parts (sure_agenda c.args.feed.now) a.desk.machine.state (g.O.Outlet.held c.args.outlet.now) l.disk c.turn_on.new.disk (kept_of b.store.journal) (kept_of n.store.journal) (rows_of b.kept) (rows_of n.kept) b.press.key b.store.batch.parts n.store.batch.parts b.machine.state n.machine.state i.so_far.0 t.0 (g.O.Outlet.held l.outlet) (g.O.Outlet.held c.turn_on.new.outlet) (sure_agenda l.feed) (sure_agenda c.turn_on.new.feed) l._made i.key c.in-Err.stop i.so_far.3 t.2 (no_drops c.in-Err.stop t.0 (g.S.Sink.faults l.out) (g.S.Sink.faults c.turn_on.new.out) (g.S.Sink.written l.out) (g.S.Sink.written c.turn_on.new.out) t.1))

pub loop-made-preserved-in-Ok-Went : goal.loop-made-preserved-in-Ok-Went
loop-made-preserved-in-Ok-Went g c =
    let a = c.args.recorder.now in
    let l = c.loop-made in
    let b = l.recorder.desk in
    let n = c.turn_on.new.recorder.desk in
    let i = l.invariant in
    let t = rw c.in-Ok-Went.field-0-is at c.in-Ok-Went.ensures.turn in
    record {
      open_still = c.in-Ok-Went.ensures.stop;
      key = c.in-Ok-Went.ensures.key ∙ i.key;
      same = same_on (kept_of a.desk.store.journal) (kept_of b.store.journal) (kept_of n.store.journal) i.same c.in-Ok-Went.ensures.same;
      disk = c.in-Ok-Went.ensures.disk_faults ∙ i.disk;
      outlet = c.in-Ok-Went.ensures.outlet_faults ∙ i.outlet;
      loan = c.in-Ok-Went.ensures.loan ∙ i.loan;
      most = omega (arith, i.most);
      so_far = (i.so_far.0 ++ t.0, none_more i.so_far.0 t.0 l.drops i.so_far.1 t.1.0, prints_on i.so_far.0 t.0 (g.S.Sink.faults c.args.out.now) (g.S.Sink.faults l.out) (g.S.Sink.faults c.turn_on.new.out) (g.S.Sink.written c.args.out.now) (g.S.Sink.written l.out) (g.S.Sink.written c.turn_on.new.out) i.so_far.2 t.1.1, goes_on g.D.Disk.seen g.D.Disk.may_leave g.D.Disk.moment g.D.Disk.left_since g.O.Outlet.adding g.O.Outlet.tearing (sender_of a.desk) c.args.disk.now (kept_of a.desk.store.journal) (rows_of a.desk.kept) a.desk.store.batch.parts (sure_agenda c.args.feed.now) a.desk.machine.state (g.O.Outlet.held c.args.outlet.now) l.disk c.turn_on.new.disk (kept_of b.store.journal) (kept_of n.store.journal) (rows_of b.kept) (rows_of n.kept) b.press.key b.store.batch.parts n.store.batch.parts b.machine.state n.machine.state i.so_far.0 t.0 (g.O.Outlet.held l.outlet) (g.O.Outlet.held c.turn_on.new.outlet) (sure_agenda l.feed) (sure_agenda c.turn_on.new.feed) l._made i.key i.so_far.3 t.2);
    }

pub loop-made-preserved : goal.loop-made-preserved
loop-made-preserved g c =
    let a = c.args.recorder.now in
    let l = c.loop-made in
    let b = l.recorder.desk in
    let n = c.turn_on.new.recorder.desk in
    let i = l.invariant in
    let t = rw c.in-Ok-Dropped.field-0-is at c.in-Ok-Dropped.ensures.turn in
    record {
      open_still = c.in-Ok-Dropped.ensures.stop;
      key = c.in-Ok-Dropped.ensures.key ∙ i.key;
      same = same_on (kept_of a.desk.store.journal) (kept_of b.store.journal) (kept_of n.store.journal) i.same c.in-Ok-Dropped.ensures.same;
      disk = c.in-Ok-Dropped.ensures.disk_faults ∙ i.disk;
      outlet = c.in-Ok-Dropped.ensures.outlet_faults ∙ i.outlet;
      loan = c.in-Ok-Dropped.ensures.loan ∙ i.loan;
      most = omega (arith, i.most);
      so_far = (i.so_far.0 ++ t.0, one_more i.so_far.0 t.0 l.drops i.so_far.1 t.1.0, prints_on i.so_far.0 t.0 (g.S.Sink.faults c.args.out.now) (g.S.Sink.faults l.out) (g.S.Sink.faults c.turn_on.new.out) (g.S.Sink.written c.args.out.now) (g.S.Sink.written l.out) (g.S.Sink.written c.turn_on.new.out) i.so_far.2 t.1.1, drops_on g.D.Disk.seen g.D.Disk.may_leave g.D.Disk.moment g.D.Disk.left_since g.O.Outlet.adding g.O.Outlet.tearing (sender_of a.desk) c.args.disk.now (kept_of a.desk.store.journal) (rows_of a.desk.kept) a.desk.store.batch.parts (sure_agenda c.args.feed.now) a.desk.machine.state (g.O.Outlet.held c.args.outlet.now) l.disk c.turn_on.new.disk (kept_of b.store.journal) (kept_of n.store.journal) (rows_of b.kept) (rows_of n.kept) b.press.key b.store.batch.parts n.store.batch.parts b.machine.state n.machine.state i.so_far.0 t.0 (g.O.Outlet.held l.outlet) (g.O.Outlet.held c.turn_on.new.outlet) (sure_agenda l.feed) (sure_agenda c.turn_on.new.feed) l._made i.key c.in-Ok-Dropped.field-0-0 i.so_far.3 t.2);
    }

pub returns-clause-runs : goal.returns-clause-runs
returns-clause-runs g c =
    let a = c.args.recorder.now in
    let l = c.loop-made in
    let b = l.recorder.desk in
    let i = l.invariant in
    let low = subst (λ (m : MachineState). m.state.count < 2 ^ 62) c.machine.ensures (bounded (data_of c.machine.result.now.state) c.bounds.ensures.head).count in
    (i.so_far.0, (i.so_far.1, i.so_far.2), never_used_up g.D.Disk.seen g.D.Disk.may_leave g.D.Disk.moment g.D.Disk.left_since g.O.Outlet.adding g.O.Outlet.tearing (sender_of a.desk) c.args.disk.now (kept_of a.desk.store.journal) (rows_of a.desk.kept) a.desk.store.batch.parts (sure_agenda c.args.feed.now) a.desk.machine.state (g.O.Outlet.held c.args.outlet.now) l.disk (kept_of b.store.journal) (rows_of b.kept) b.store.batch.parts b.machine.state l._made i.so_far.0 (g.O.Outlet.held l.outlet) (sure_agenda l.feed) (few_events c.args.feed.now) low c.loop-made-test.false i.so_far.3)

pub returns-in-Err-clause-unsaved : goal.returns-in-Err-clause-unsaved
returns-in-Err-clause-unsaved g c = cut_alike Turned ℕ c.in-Err.stop _ c.in-Err.ensures.unsaved
