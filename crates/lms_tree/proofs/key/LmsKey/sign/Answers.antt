use Rattle.std.proofs.Common.{◌+◌, ap}
use Rattle.avm_model.proofs.KeyLaws.{sig_of-valid, sig_of-true}
use Rattle.lms_tree.proofs.Paths.{kept_types, kept_id, signed}
use Rattle.avm_num.specs.Lists.{be}
use Rattle.lms_tree.proofs.key.LmsKey.sign.Goals as goal

pub returns-clause-equations : goal.returns-clause-equations
returns-clause-equations c = sig_of-valid c.args.self.now c.args.q c.args.text.now (kept_types _ _ c.self.view_is c.self.invariant) (kept_id _ _ c.self.view_is c.self.invariant) c.requires.leaf

pub returns-clause-valid : goal.returns-clause-valid
returns-clause-valid c = sig_of-true c.args.self.now c.args.q c.args.text.now (kept_types _ _ c.self.view_is c.self.invariant) (kept_id _ _ c.self.view_is c.self.invariant) c.requires.leaf

pub returns-clause-value : goal.returns-clause-value
unfolding be
returns-clause-value c =
    signed c.args.self.now c.args.out.now _ _ _ _ _ _ c.args.q _ _ _ _ c.args.text.now _ c.self.inside.nodes.items c.self.view_is c.self.invariant.kept c.deref.ensures.value
    c.put_u32.ensures.value c.sign.ensures.value c.put_u32-2.ensures.value c.put_path.ensures.value c.height-h.ensures.value (ap (λ n. n + c.args.q) c.leaf_count.ensures.value) c.requires.leaf
