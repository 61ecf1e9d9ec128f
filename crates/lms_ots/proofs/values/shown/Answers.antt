use Rattle.std.proofs.Common.{◌<◌, arith}
use Rattle.avm_model.specs.LmsOts.{head_of}
use Rattle.lms_ots.proofs.Steps.{value_is}
use Rattle.lms_ots.proofs.values.shown.Goals as goal

pub returns : goal.returns
returns c i lt =
    let p = c.chains-p.ensures.value in
    let low : i < c.chains-p.result = omega (arith, p) in
    let inside : i < 265 = omega (arith, c.chains-p.ensures.few) in
    let first = c.everywhere.ensures i inside in
    let last = rw c.width.ensures.value at (c.digits-to.ensures.value i low) in
    value_is (head_of c.args.base.now i) _ _ _ _ _ 0 _ (c.secrets-texts.ensures i low) (c.run.ensures i low) first (omega (arith, first, last))
