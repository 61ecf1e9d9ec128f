use Rattle.record_run.proofs.SealLeft.{told_open, told_seal}
use Rattle.jrnl_store.specs.Kept.{kept as kept_of}
use Rattle.record_run.specs.Runs.{sender_of}
use Rattle.record_turn.specs.Desk.{rows_of}
use Rattle.std.proofs.Common.{ap}
use Rattle.avm_model.specs.Machine.{MachineState}
use Rattle.record_run.proofs.Cutting.{seal_cut}
use Rattle.record_run.proofs.sealing.seal.Goals as goal

pub returns-clause-seal : goal.returns-clause-seal
returns-clause-seal g c =
    let d = c.args.recorder.now.desk in
    let n = c.seal-answer.new.self.desk in
    told_seal g.D.Disk.seen g.D.Disk.may_leave g.D.Disk.moment g.D.Disk.left_since g.O.Outlet.adding g.O.Outlet.tearing c.args.disk.now c.seal-answer.new.disk (kept_of d.store.journal) (kept_of n.store.journal) (sender_of d) c.args.drops c.seal-answer.result (rows_of d.kept) d.store.batch.parts n.store.batch.parts
    d.machine.state _ (g.O.Outlet.held c.args.outlet.now) (g.O.Outlet.held c.seal-answer.new.outlet) (rows_of n.kept) n.machine.state c.outcome.result c.outcome.ensures c.seal-answer.ensures.kept (ap (λ (m : MachineState). m.state) c.seal-answer.ensures.machine) (c.seal-answer.ensures.seals c.requires.open)

pub returns-clause-open : goal.returns-clause-open
returns-clause-open g c =
    let d = c.args.recorder.now.desk in
    let n = c.seal-answer.new.self.desk in
    told_open g.D.Disk.seen g.D.Disk.may_leave g.D.Disk.moment g.D.Disk.left_since g.O.Outlet.adding g.O.Outlet.tearing c.args.disk.now c.seal-answer.new.disk (kept_of d.store.journal) (kept_of n.store.journal) (sender_of d) c.args.drops c.seal-answer.result (rows_of d.kept) d.store.batch.parts n.store.batch.parts
    d.machine.state _ (g.O.Outlet.held c.args.outlet.now) (g.O.Outlet.held c.seal-answer.new.outlet) c.outcome.result c.args.recorder.now.stop c.seal-answer.new.self.stop c.outcome.ensures c.requires.open c.seal-answer.ensures.stop c.requires.own (c.seal-answer.ensures.seals c.requires.open)

pub returns-clause-unsaved : goal.returns-clause-unsaved
returns-clause-unsaved g c = seal_cut _ c.args.drops c.seal-answer.result c.outcome.result c.outcome.ensures c.seal-answer.ensures.unsaved
