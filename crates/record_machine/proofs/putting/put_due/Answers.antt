use Rattle.std.proofs.Common.{◌≡◌, sym, ap, subst, ◌∙◌, length, List, Bool, true, false}
use Rattle.record_machine.specs.Marks.{HasMarks, used_marks}
use Rattle.record_machine.proofs.Used.{not_due, snap_due}
use Rattle.record_machine.proofs.putting.put_due.Goals as goal

pub returns-then-due-clause-value : goal.returns-then-due-clause-value
returns-then-due-clause-value c =
    snap_due c.args.all c.args.due c.args.batch.now c.put_snap.new.batch c.args.machine.now.state c.root_now-root.new.machine.state c.args.machine.now.dirty c.as_slice.result.now c.if-due.true c.root_now-root.ensures.state
    (subst (λ (ms : List Bool). HasMarks ms (used_marks c.args.all c.args.machine.now.dirty)) (sym c.as_slice.ensures.value) c.make.ensures.marks)
    (ap (λ (ms : List Bool). length ms) c.as_slice.ensures.value ∙ c.make.ensures.pages ∙ c.requires.pages) c.bounds.ensures.ram c.put_snap.ensures.value c.put_snap.ensures.marked

pub returns-else-due-clause-value : goal.returns-else-due-clause-value
returns-else-due-clause-value c =
    not_due c.args.all c.args.due c.args.batch.now c.args.machine.now.state c.args.machine.now.dirty c.if-due.false

pub returns-then-due-clause-head : goal.returns-then-due-clause-head
returns-then-due-clause-head c = λ _. record { read = c.make.ensures.read; again = c.make.ensures.state }

pub returns-then-due-clause-quiet : goal.returns-then-due-clause-quiet
returns-then-due-clause-quiet c = λ no. absurd (let z : true ≡ false = sym c.if-due.true ∙ no in cc)

pub returns-else-due-clause-head : goal.returns-else-due-clause-head
returns-else-due-clause-head c = λ yes. absurd (let z : true ≡ false = sym yes ∙ c.if-due.false in cc)
