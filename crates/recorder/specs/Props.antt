-- The set for `by { Prim.hlevel props }` behind the ghost fields of a recorder.
use Rattle.std.specs.Prelude.{List, [], ◌∷◌}
use Rattle.std.proofs.Props as below
use Rattle.journal_model.specs.Part.{Part, entry, keep, seal}
use Rattle.record_parts.specs.Outs.{AreQuiet}

-- a batch is quiet in one way at most
pub quiet-prop : (ps : List Part) → IsProp (AreQuiet ps)
quiet-prop [] = Prim.hlevel below.props
quiet-prop (entry f ∷ ps) = Prim.hlevel (below.props, quiet-prop ps)
quiet-prop (seal ∷ ps) = Prim.hlevel below.props
quiet-prop (keep k ∷ ps) = quiet-prop ps

pub ruleset props = (below.props, quiet-prop)
