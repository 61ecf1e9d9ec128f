use Rattle.jrnl_store.specs.Kept.{kept as kept_of}
use Rattle.record_run.proofs.TurnLeft.{never_fails, told_turn, unless_in}
use Rattle.record_run.specs.Feeds.{sure_agenda}
use Rattle.record_turn.specs.Keeping.{aside_of}
use Rattle.record_run.proofs.Cutting.{turn_cut}
use Rattle.record_run.proofs.turning.take_turn.Goals as goal

pub returns-clause-turn : goal.returns-clause-turn
returns-clause-turn g c =
    let o = c.args.recorder.now in
    let d = o.desk in
    let n = c.turn-turn.new.self.desk in
    let fed = never_fails c.turn-turn.result c.turn-turn.ensures.feed_faults in
    let u = unless_in c.turn-turn.result _ fed (c.turn-turn.ensures.turns c.requires.open) in
    told_turn g.D.Disk.seen g.D.Disk.may_leave g.D.Disk.moment g.D.Disk.left_since g.O.Outlet.adding g.O.Outlet.tearing c.args.disk.now c.turn-turn.new.disk (kept_of d.store.journal) (kept_of n.store.journal) d.press.key c.turn-turn.result u.0 u.1
    (aside_of d.kept d.machine) (aside_of n.kept n.machine) d.store.batch.parts n.store.batch.parts d.machine.state n.machine.state _ (g.O.Outlet.held c.args.outlet.now) (g.O.Outlet.held c.turn-turn.new.outlet) (sure_agenda c.args.feed.now) (sure_agenda c.turn-turn.new.feed)
    c.outcome.result c.outcome.ensures fed (o.ready c.requires.open).small u.2 u.3

pub returns-clause-unsaved : goal.returns-clause-unsaved
returns-clause-unsaved g c = turn_cut _ c.turn-turn.result c.outcome.result c.outcome.ensures c.turn-turn.ensures.unsaved
