use Rattle.std.proofs.lemmas.List.{take_rest}
use Rattle.lms_tree.proofs.Verdict.{valid_by}
use Rattle.lms_tree.proofs.verifying.has_equations.Goals as goal

pub returns : goal.returns
returns c = valid_by c.is_valid.result c.number_at-lms.result c.number_at-ots.result c.id_at.result _ c.args.key.now c.args.text.now c.args.sig.now
    c.if-key-ne56.false c.number_at-lms.ensures c.number_at-ots.ensures c.id_at.ensures (take_rest c.args.key.now 24) c.is_valid.ensures
