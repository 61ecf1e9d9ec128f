use Rattle.std.proofs.Common.{None}
use Rattle.honest_model.specs.Honest.{IsFaultFrom}
use Rattle.journal_model.specs.Journal.{entries}
use Rattle.jrnl_store.specs.Kept.{kept}
use Rattle.rebut_pass.proofs.OnDisk.{reads_both}
use Rattle.rebuttal.proofs.Whole.{none_made, go_told}
use Rattle.rebuttal.proofs.states.machine_at.Goals as goal

pub returns-in-Ok-None-clause-state : goal.returns-in-Ok-None-clause-state
returns-in-Ok-None-clause-state g c = none_made _ (kept c.args.journal.now) c.in-Ok-None.field-0 (λ s j. IsFaultFrom j.header.first s (entries j) None → ⊥) c.in-Ok-None.field-0-is c.in-Ok-None.ensures.state

pub returns-in-Ok-clause-state : goal.returns-in-Ok-clause-state
returns-in-Ok-clause-state g c =
    go_told (g.D.Disk.seen c.args.disk.now) (g.D.Disk.seen c.header_machine.new.disk) (kept c.args.journal.now) (kept c.header_machine.new.journal) c.in-Ok-Some.field-0 c.in-Ok-Some.parts c.args.number c.begin-going.result c.read_all.new.pass c.machine_of_replay.result.0.state
    c.in-Ok-Some.ensures.reads.same c.in-Ok-Some.ensures.kept c.in-Ok-Some.field-0-is c.in-Ok-Some.ensures.state c.begin-going.ensures.gone c.begin-going.ensures.number c.in-Ok.ensures.taken c.machine_of_replay.ensures.state

pub returns-in-Ok-clause-reads : goal.returns-in-Ok-clause-reads
returns-in-Ok-clause-reads g c = reads_both g.D.Disk.seen g.D.Disk.may_leave g.D.Disk.moment g.D.Disk.left_since c.args.disk.now c.header_machine.new.disk c.read_all.new.disk c.in-Ok-Some.ensures.reads c.in-Ok.ensures.reads
