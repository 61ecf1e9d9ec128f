use Rattle.std.proofs.Common.{sym, ◌∙◌}
use Rattle.rebut_texts.specs.Places.{differ_at}
use Rattle.rebut_texts.specs.Views.{trees_of}
use Rattle.rebut_texts.proofs.Walking.{finds_here, finds_leaf, finds_left, finds_right}
use Rattle.rebut_texts.proofs.pages.+first_from.Goals as goal

pub returns-then-differs-clause-value : goal.returns-then-differs-clause-value
returns-then-differs-clause-value t c = finds_here _ (differ_at (trees_of c.args.trees.now)) c.args.place (sym c.differs.ensures ∙ c.if-differs.true)

pub returns-then-place-trees-clause-value : goal.returns-then-place-trees-clause-value
returns-then-place-trees-clause-value t c = finds_leaf _ (differ_at (trees_of c.args.trees.now)) c.args.place (sym c.differs.ensures ∙ c.if-differs.false) c.if-place-trees.true

pub returns-in-Some-clause-value : goal.returns-in-Some-clause-value
returns-in-Some-clause-value t c = finds_left _ (differ_at (trees_of c.args.trees.now)) c.args.place c.in-Some.found _ (sym c.differs.ensures ∙ c.if-differs.false) c.if-place-trees.false c.first_from.ensures.value c.in-Some.is

pub returns-in-None-clause-value : goal.returns-in-None-clause-value
returns-in-None-clause-value t c = finds_right _ (differ_at (trees_of c.args.trees.now)) c.args.place _ _ (sym c.differs.ensures ∙ c.if-differs.false) c.if-place-trees.false c.first_from.ensures.value c.in-None.is c.first_from-in-None.ensures.value
