use Rattle.std.proofs.Common.{◌<◌, arith}
use Rattle.avm_model.specs.LmsOts.{head_of}
use Rattle.lms_ots.proofs.Steps.{value_is}
use Rattle.lms_ots.proofs.values.reached.Goals as goal

pub returns : goal.returns
returns c i lt =
    let p = c.chains-p.ensures.value in
    let low : i < c.chains-p.result = omega (arith, p) in
    let inside : i < 265 = omega (arith, c.chains-p.ensures.few) in
    let first = rw c.width.ensures.value at (c.digits-from.ensures.value i low) in
    let last = c.everywhere.ensures i inside in
    value_is (head_of c.args.base.now i) _ _ _ _ _ _ _ (c.pieces-texts.ensures i low) (c.run.ensures i low) first (omega (arith, first, last, c.last_step.ensures.value))
