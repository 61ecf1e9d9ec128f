use Rattle.std.proofs.Common.{arith}
use Rattle.jrnl_store.specs.Kept.{kept as kept_of}
use Rattle.record_parts.specs.Outs.{ram_in}
use Rattle.record_turn.proofs.Batches.{small_size}
use Rattle.record_turn.proofs.Steps.{spelled_on, spelled_stopped}
use Rattle.record_turn.proofs.Told.{told_as}
use Rattle.record_store.proofs.Unsaved.{unsaved_alike}
use Rattle.record_turn.proofs.desk.Desk.run_on.Goals as goal
use Rattle.record_parts.specs.declared.answers.Turn.{Turn}
use Rattle.record_turn.proofs.Runs.{runs_alike}

pub finish-requires-clause-place : goal.finish-requires-clause-place
finish-requires-clause-place g c = let z = small_size c.args.self.now.store.batch c.requires.ready.small in omega (arith, z)

pub returns-in-Ok-clause-acts : goal.returns-in-Ok-clause-acts
returns-in-Ok-clause-acts g c =
    told_as g.D.Disk.moment g.D.Disk.left_since g.D.Disk.seen g.D.Disk.may_leave c.args.disk.now c.finish.new.disk (kept_of c.args.self.now.store.journal) (kept_of c.finish.new.self.store.journal) _ _ (rw c.in-Ok.is at c.finish.ensures.ends)
    (λ j was own next flight h. spelled_on g.O.Outlet.adding g.O.Outlet.tearing _ _ _ (ram_in c.args.self.now.machine) (ram_in c.spell-steps.new.machine) (ram_in c.finish.new.self.machine) c.spell-steps.ensures.marks _ _ _ _ _ next flight c.in-Ok.field-0 c.args.until j c.args.self.now.store.batch.parts c.args.self.now.machine.state c.spell-steps.new.machine.state c.spell-steps.new.outs c.spell-steps.result c.spell-steps.ensures.spell h)

pub returns-in-Err-clause-acts : goal.returns-in-Err-clause-acts
returns-in-Err-clause-acts g c =
    told_as g.D.Disk.moment g.D.Disk.left_since g.D.Disk.seen g.D.Disk.may_leave c.args.disk.now c.finish.new.disk (kept_of c.args.self.now.store.journal) (kept_of c.finish.new.self.store.journal) _ _ (rw c.in-Err.is at c.finish.ensures.ends)
    (λ j was own next flight h. spelled_stopped g.O.Outlet.adding g.O.Outlet.tearing _ _ _ (ram_in c.args.self.now.machine) (ram_in c.spell-steps.new.machine) (ram_in c.finish.new.self.machine) c.spell-steps.ensures.marks _ _ _ _ _ next flight c.args.until j c.args.self.now.store.batch.parts c.args.self.now.machine.state c.spell-steps.new.machine.state c.spell-steps.new.outs c.spell-steps.result c.in-Err.stop c.spell-steps.ensures.spell h)

pub returns-in-Err-clause-run : goal.returns-in-Err-clause-run
returns-in-Err-clause-run g c = runs_alike (Unit {0}) Turn c.in-Err.stop _ (rw c.in-Err.is at c.finish.ensures.run)

pub returns-in-Err-clause-unsaved : goal.returns-in-Err-clause-unsaved
returns-in-Err-clause-unsaved g c = unsaved_alike (Unit {0}) Turn c.in-Err.stop _ (rw c.in-Err.is at c.finish.ensures.unsaved)
