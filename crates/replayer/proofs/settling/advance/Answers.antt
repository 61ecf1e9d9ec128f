use Rattle.std.proofs.Common.{arith, ap, ◌<◌, ◌∙◌, sym}
use Rattle.avm_model.specs.Machine.{MachineState}
use Rattle.replayer.proofs.Settles.{step_on, step_none, step_out, marks_on}
use Rattle.replayer.proofs.settling.advance.Goals as goal

pub returns-then-not-step_on-clause-stand : goal.returns-then-not-step_on-clause-stand
returns-then-not-step_on-clause-stand c =
    step_none c.args.machine.now.state c.loop.machine.state c.step_on.new.machine.state c.args.pending.now c.loop.pending c.step_on.new.pending c.args.count
    c.if-not-is_empty.ensures.none c.loop.invariant.0 c.if-not-step_on.ensures.no (ap (λ (m : MachineState). m.state) c.if-not-step_on.ensures.same) c.if-not-step_on.ensures.left
    c.loop.invariant.3

pub returns-then-not-is_empty-2-clause-stand : goal.returns-then-not-is_empty-2-clause-stand
returns-then-not-is_empty-2-clause-stand c =
    let lt : c.loop.machine.state.count < c.args.count = omega arith in
    step_out c.args.machine.now.state c.loop.machine.state c.step_on.new.machine.state c.args.pending.now c.step_on.new.pending c.args.count
    c.if-not-is_empty.ensures.none c.if-not-step_on.ensures.yes lt c.loop.invariant.3 (sym c.if-not-is_empty-2.ensures.value)

pub loop-preserved : goal.loop-preserved
loop-preserved c =
    let empty = c.if-not-is_empty-2.ensures.none in
    let lt : c.loop.machine.state.count < c.args.count = omega arith in
    let k = step_on c.loop.machine.state c.step_on.new.machine.state c.step_on.new.pending c.args.count c.if-not-step_on.ensures.yes lt empty in
    (empty, c.if-not-step_on.ensures.fits, omega (arith, k.0), k.1 ∙ c.loop.invariant.3, marks_on _ _ _ c.loop.invariant.4 c.step_on.ensures.marks)
