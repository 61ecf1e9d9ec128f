use Rattle.lms_hss.proofs.HssLaws.{both_valid}
use Rattle.lms_hss.proofs.verifying.has_valid_parts.Goals as goal

pub returns : goal.returns
returns c = both_valid c.args.top.now c.args.text.now c.args.sig.now c.args.n c.verify.result c.verify-2.result c.verify.ensures.equations c.if-not-verify.false c.verify-2.ensures.equations
