use Rattle.std.proofs.Common.{◌∙◌, ap, drop}
use Rattle.avm_model.specs.LmsTypes.{chains_of}
use Rattle.avm_model.specs.LmsOts.{shown_of}
use Rattle.avm_num.specs.Room.{with_bytes}
use Rattle.lms_ots.specs.Chains.{text_at}
use Rattle.lms_ots.proofs.Steps.{joined_same}
use Rattle.lms_ots.proofs.signing.put_chains.Goals as goal

pub returns-clause-value : goal.returns-clause-value
returns-clause-value c =
    let same = joined_same (λ i. drop 23 (text_at c.shown.result i)) (shown_of c.args.ots c.args.base.now c.args.seed.now c.args.signed.now) (chains_of c.args.ots) c.shown.ensures in
    rw c.chains.ensures.value at c.put_values.ensures.value ∙ ap (with_bytes c.args.out.now) same
