use Rattle.std.proofs.Common.{◌≡◌, ap, arith, sym, ◌∙◌}
use Rattle.avm_model.specs.Machine.{MachineState}
use Rattle.record_parts.proofs.Steps.{quiet_on, stopped_at, stopped_there, made_most, with_outputs, loud, clock_behind, count_below, marks_on}
use Rattle.record_parts.proofs.spelling.spell.Goals as goal

pub returns-then-count-until-clause-spell : goal.returns-then-count-until-clause-spell
returns-then-count-until-clause-spell c =
    let at : c.loop-made.machine.state.count ≡ c.args.until = sym c.count.ensures ∙ c.if-count-until.true in
    stopped_at _ _ _ _ _ c.loop-made.invariant.0 c.requires.goes c.loop-made.invariant.1 c.loop-made-test.true at

pub returns-then-not-step_on-clause-spell : goal.returns-then-not-step_on-clause-spell
returns-then-not-step_on-clause-spell c =
    stopped_there c.args.until c.args.machine.now.state c.loop-made.machine.state c.step_on.new.machine.state c.loop-made.outs c.step_on.new.outs c.loop-made.made
    c.loop-made.invariant.0 c.requires.goes c.loop-made.invariant.1 c.loop-made-test.true c.if-not-step_on.ensures.no (ap (λ (m : MachineState). m.state) c.if-not-step_on.ensures.same) c.if-not-step_on.ensures.left

pub returns-then-not-is_empty-clause-spell : goal.returns-then-not-is_empty-clause-spell
returns-then-not-is_empty-clause-spell c =
    with_outputs c.args.until c.args.machine.now.state c.loop-made.machine.state c.step_on.new.machine.state c.step_on.new.outs c.loop-made.made
    c.loop-made.invariant.0 (λ e. c.if-count-until.false (c.count.ensures ∙ e)) c.loop-made-test.true c.if-not-step_on.ensures.yes (loud c.step_on.new.machine.state c.step_on.new.outs (sym c.if-not-is_empty.ensures.value))

pub loop-made-preserved : goal.loop-made-preserved
loop-made-preserved c = (
  quiet_on c.args.until c.args.machine.now.state c.loop-made.machine.state c.step_on.new.machine.state c.step_on.new.outs c.loop-made.made
      c.loop-made.invariant.0 (λ e. c.if-count-until.false (c.count.ensures ∙ e)) c.if-not-step_on.ensures.yes c.if-not-is_empty.ensures.none,
  c.if-not-is_empty.ensures.none,
  c.if-not-step_on.ensures.fits,
  marks_on _ _ _ c.loop-made.invariant.3 c.step_on.ensures.marks,
)

pub returns-clause-spell : goal.returns-clause-spell
returns-clause-spell c =
    let all : c.loop-made.made ≡ 65536 = omega (arith, c.loop-made-test.false) in
    made_most _ _ _ _ (rw all at c.loop-made.invariant.0) c.loop-made.invariant.1

pub returns-then-not-is_empty-clause-clock : goal.returns-then-not-is_empty-clause-clock
returns-then-not-is_empty-clause-clock c = clock_behind c.args.until c.args.machine.now.state c.loop-made.machine.state c.step_on.new.machine.state _ c.loop-made.made c.loop-made.invariant.0 c.if-not-step_on.ensures.yes

pub returns-then-not-is_empty-clause-below : goal.returns-then-not-is_empty-clause-below
returns-then-not-is_empty-clause-below c =
    count_below c.args.until c.args.machine.now.state c.loop-made.machine.state c.step_on.new.machine.state _ c.loop-made.made c.loop-made.invariant.0 (λ e. c.if-count-until.false (c.count.ensures ∙ e)) c.if-not-step_on.ensures.yes
