use Rattle.std.proofs.Common.{◌<◌, arith}
use Rattle.avm_model.specs.LmsOts.{head_of}
use Rattle.lms_ots.proofs.Steps.{value_is}
use Rattle.lms_ots.proofs.values.ends.Goals as goal

pub returns : goal.returns
returns c i lt =
    let p = c.chains-p.ensures.value in
    let inside : i < 265 = omega (arith, c.chains-p.ensures.few) in
    let first = c.everywhere.ensures i inside in
    let last = c.everywhere-2.ensures i inside in
    value_is (head_of c.args.base.now i) _ _ _ _ _ 0 _ (c.secrets-texts.ensures i (omega (arith, p))) (c.run.ensures i (omega (arith, p))) first (omega (arith, first, last, c.last_step.ensures.value))
