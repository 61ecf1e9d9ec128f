use Rattle.std.proofs.Common.{[]}
use Rattle.std.specs.Prelude.{Err}
use Rattle.avm_script.specs.Feeds.{script_agenda}
use Rattle.jrnl_store.specs.Kept.{kept as kept_of}
use Rattle.record_run.proofs.Saying.{says_sealed}
use Rattle.record_run.proofs.Telling.{feed_told, gone_desk, is_sealed}
use Rattle.record_run.specs.Feeds.{sure_agenda}
use Rattle.record_run.specs.Runs.{sender_of}
use Rattle.record_turn.specs.Desk.{rows_of}
use Rattle.record_run.proofs.running.run.Goals as goal

pub returns-in-Err-clause-runs : goal.returns-in-Err-clause-runs
returns-in-Err-clause-runs g c =
    let a = c.args.recorder.now in
    let b = c.turns.new.recorder.desk in
    let t = c.in-Err.ensures.runs in
    (t.0, t.1, feed_told g.D.Disk.seen g.D.Disk.may_leave g.D.Disk.moment g.D.Disk.left_since g.O.Outlet.adding g.O.Outlet.tearing (sender_of a.desk) c.args.disk.now (kept_of a.desk.store.journal) (rows_of a.desk.kept) a.desk.store.batch.parts a.desk.machine.state (g.O.Outlet.held c.args.outlet.now) (sure_agenda c.new-feed.result) (script_agenda c.args.feed) c.new-feed.ensures c.turns.new.disk (kept_of b.store.journal) (rows_of b.kept) b.store.batch.parts b.machine.state t.0 (g.O.Outlet.held c.turns.new.outlet) (Err c.in-Err.stop) t.2)

pub seal-requires-clause-own : goal.seal-requires-clause-own
seal-requires-clause-own g c =
    let a = c.args.recorder.now in
    let b = c.turns.new.recorder.desk in
    gone_desk g.D.Disk.seen g.D.Disk.may_leave g.D.Disk.moment g.D.Disk.left_since g.O.Outlet.adding g.O.Outlet.tearing (sender_of a.desk) c.args.disk.now (kept_of a.desk.store.journal) (rows_of a.desk.kept) a.desk.store.batch.parts (sure_agenda c.new-feed.result) a.desk.machine.state (g.O.Outlet.held c.args.outlet.now) c.turns.new.disk (kept_of b.store.journal) (rows_of b.kept) b.store.batch.parts b.machine.state c.in-Ok.ensures.runs.0 (g.O.Outlet.held c.turns.new.outlet) c.requires.own c.in-Ok.ensures.runs.2

pub returns-clause-runs : goal.returns-clause-runs
returns-clause-runs g c =
    let a = c.args.recorder.now in
    let b = c.turns.new.recorder.desk in
    let n = c.seal.new.recorder.desk in
    let t = c.in-Ok.ensures.runs in (
      t.0,
      says_sealed c.seal.result t.0 c.in-Ok.drops (g.S.Sink.faults c.args.out.now) (g.S.Sink.faults c.turns.new.out) (g.S.Sink.written c.args.out.now) (g.S.Sink.written c.turns.new.out) t.1 c.seal.ensures.no_print c.seal.ensures.answer,
      feed_told g.D.Disk.seen g.D.Disk.may_leave g.D.Disk.moment g.D.Disk.left_since g.O.Outlet.adding g.O.Outlet.tearing (sender_of a.desk) c.args.disk.now (kept_of a.desk.store.journal) (rows_of a.desk.kept) a.desk.store.batch.parts a.desk.machine.state (g.O.Outlet.held c.args.outlet.now) (sure_agenda c.new-feed.result) (script_agenda c.args.feed) c.new-feed.ensures c.seal.new.disk (kept_of n.store.journal) (rows_of n.kept) n.store.batch.parts n.machine.state t.0 (g.O.Outlet.held c.seal.new.outlet) c.seal.result
          (is_sealed g.D.Disk.seen g.D.Disk.may_leave g.D.Disk.moment g.D.Disk.left_since g.O.Outlet.adding g.O.Outlet.tearing (sender_of a.desk) c.args.disk.now (kept_of a.desk.store.journal) (rows_of a.desk.kept) a.desk.store.batch.parts (sure_agenda c.new-feed.result) a.desk.machine.state (g.O.Outlet.held c.args.outlet.now) c.turns.new.disk c.seal.new.disk (kept_of b.store.journal) (kept_of n.store.journal) (rows_of b.kept) (rows_of n.kept) b.press.key b.store.batch.parts n.store.batch.parts b.machine.state n.machine.state t.0 []
          (g.O.Outlet.held c.turns.new.outlet) (g.O.Outlet.held c.seal.new.outlet) (sure_agenda c.turns.new.feed) (sure_agenda c.turns.new.feed) 0 c.in-Ok.ensures.key c.seal.result t.2 c.seal.ensures.seal),
    )
