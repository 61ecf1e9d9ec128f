use Rattle.std.proofs.Common.{ap, arith, ◌∙◌}
use Rattle.avm_model.specs.Machine.{State}
use Rattle.avm_model.proofs.ReferenceLaws.{step_counts}
use Rattle.jrnl_store.specs.Kept.{kept as kept_of}
use Rattle.record_parts.specs.Outs.{ram_in}
use Rattle.record_turn.proofs.Batches.{small_size}
use Rattle.record_turn.proofs.Steps.{clock_gone, stepped_on_to, stepped_stopped, steps_by_clock}
use Rattle.record_turn.proofs.Told.{told_as}
use Rattle.record_store.proofs.Unsaved.{unsaved_alike}
use Rattle.record_turn.proofs.desk.Desk.use_clock.Goals as goal
use Rattle.record_parts.specs.declared.answers.Turn.{Turn}
use Rattle.record_turn.proofs.Runs.{runs_alike}

pub unreachable-requires : goal.unreachable-requires
unreachable-requires g c = steps_by_clock c.args.self.now.machine.state c.requires.asks c.requires.clock c.if-not-step_on.ensures.no

pub finish-requires-clause-place : goal.finish-requires-clause-place
finish-requires-clause-place g c = let z = small_size c.args.self.now.store.batch c.requires.ready.small in omega (arith, z)

pub finish-requires-clause-clock : goal.finish-requires-clause-clock
finish-requires-clause-clock g c = clock_gone c.args.self.now.machine.state c.step_on.new.machine.state _ c.requires.asks c.if-not-step_on.ensures.yes

pub returns-in-Ok-clause-acts : goal.returns-in-Ok-clause-acts
returns-in-Ok-clause-acts g c =
    told_as g.D.Disk.moment g.D.Disk.left_since g.D.Disk.seen g.D.Disk.may_leave c.args.disk.now c.finish.new.disk (kept_of c.args.self.now.store.journal) (kept_of c.finish.new.self.store.journal) _ _ (rw c.in-Ok.is at c.finish.ensures.ends)
    (λ j was own next flight h. stepped_on_to g.O.Outlet.adding g.O.Outlet.tearing _ _ _ (ram_in c.args.self.now.machine) (ram_in c.step_on.new.machine) (ram_in c.finish.new.self.machine) c.step_on.ensures.marks _ _ _ _ _ next flight c.in-Ok.field-0 j c.args.self.now.store.batch.parts c.args.self.now.machine.state c.step_on.new.machine.state _ c.if-not-step_on.ensures.yes h)

pub returns-in-Err-clause-acts : goal.returns-in-Err-clause-acts
returns-in-Err-clause-acts g c =
    told_as g.D.Disk.moment g.D.Disk.left_since g.D.Disk.seen g.D.Disk.may_leave c.args.disk.now c.finish.new.disk (kept_of c.args.self.now.store.journal) (kept_of c.finish.new.self.store.journal) _ _ (rw c.in-Err.is at c.finish.ensures.ends)
    (λ j was own next flight h. stepped_stopped g.O.Outlet.adding g.O.Outlet.tearing _ _ _ (ram_in c.args.self.now.machine) (ram_in c.step_on.new.machine) (ram_in c.finish.new.self.machine) c.step_on.ensures.marks _ _ _ _ _ next flight j c.args.self.now.store.batch.parts c.args.self.now.machine.state c.step_on.new.machine.state _ c.in-Err.stop c.if-not-step_on.ensures.yes h)

pub finish-requires-clause-count : goal.finish-requires-clause-count
finish-requires-clause-count g c =
    let n = step_counts c.args.self.now.machine.state c.step_on.new.machine.state _ c.if-not-step_on.ensures.yes in
    let m = c.requires.count in
    omega (arith, n, m)

pub returns-in-Ok-clause-clock : goal.returns-in-Ok-clause-clock
returns-in-Ok-clause-clock g c = ap (λ (s : State). s.devices.clock) c.finish.ensures.state ∙ clock_gone c.args.self.now.machine.state c.step_on.new.machine.state _ c.requires.asks c.if-not-step_on.ensures.yes

pub returns-in-Err-clause-clock : goal.returns-in-Err-clause-clock
returns-in-Err-clause-clock g c = ap (λ (s : State). s.devices.clock) c.finish.ensures.state ∙ clock_gone c.args.self.now.machine.state c.step_on.new.machine.state _ c.requires.asks c.if-not-step_on.ensures.yes

pub returns-in-Err-clause-run : goal.returns-in-Err-clause-run
returns-in-Err-clause-run g c = runs_alike (Unit {0}) Turn c.in-Err.stop _ (rw c.in-Err.is at c.finish.ensures.run)

pub returns-in-Err-clause-unsaved : goal.returns-in-Err-clause-unsaved
returns-in-Err-clause-unsaved g c = unsaved_alike (Unit {0}) Turn c.in-Err.stop _ (rw c.in-Err.is at c.finish.ensures.unsaved)
