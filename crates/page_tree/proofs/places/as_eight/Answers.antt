use Rattle.page_tree.proofs.places.as_eight.Goals as goal

pub returns : goal.returns
returns c = c.in-Ok.ensures.1.same
