use Rattle.std.proofs.Common.{◌∙◌, refl}
use Rattle.avm_model.proofs.LmsNodes.{climb_more}
use Rattle.lms_tree.proofs.verifying.root_above.Goals as goal

pub loop-i-preserved : goal.loop-i-preserved
loop-i-preserved c =
    climb_more c.args.id.now c.args.h c.loop-i.i c.loop-i.r c.loop-i.node.0 c.node_above-node.result.0 c.args.beyond.now _ c.loop-i-test.true c.loop-i.invariant
    (c.node_above-node.ensures ∙ rw c.piece.ensures.value refl)
