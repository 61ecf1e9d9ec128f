use Rattle.lms_tree.proofs.Verdict.{valid_is}
use Rattle.lms_tree.proofs.verifying.verify.Goals as goal

pub returns-clause-value : goal.returns-clause-value
returns-clause-value c = valid_is c.has_equations.result c.args.key.now c.args.text.now c.args.sig.now c.has_equations.ensures
