use Rattle.std.proofs.Common.{sym, ◌∙◌}
use Rattle.rebut_texts.proofs.Nodes.{left_apart, right_apart}
use Rattle.rebut_texts.proofs.pages.nodes_differ.Goals as goal

pub returns-then-ne : goal.returns-then-ne
returns-then-ne c = left_apart _ c.args.left.now _ c.args.other_left.now _ (c.told-left ∙ sym c.told-other_left) c.ne.ensures c.if-ne.true

pub returns-else-ne : goal.returns-else-ne
returns-else-ne c = right_apart _ _ c.args.left.now _ c.args.other_left.now _ (c.told-left ∙ sym c.told-other_left) c.ne.ensures c.if-ne.false c.ne-else-ne.ensures
