use Rattle.std.proofs.Common.{◌<◌, ◌∙◌, arith}
use Rattle.avm_model.specs.LmsOts.{head_of}
use Rattle.lms_ots.proofs.Steps.{value_is}
use Rattle.lms_ots.proofs.values.secrets.Goals as goal

pub returns : goal.returns
returns c i lt =
    let inside : i < 265 = omega arith in
    let start = c.seeds-texts.ensures i lt in
    let gone = c.run.ensures i lt in
    let first = c.everywhere.ensures i inside in
    let last = c.everywhere-2.ensures i inside in
    record {
      front = gone.front ∙ start.front;
      value = value_is (head_of c.args.base.now i) _ _ _ _ _ 255 1 start gone first (omega (arith, first, last));
    }
