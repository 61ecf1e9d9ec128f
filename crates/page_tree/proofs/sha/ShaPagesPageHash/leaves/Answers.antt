use Rattle.std.proofs.Common.{refl}
use Rattle.avm_model.specs.Hash.{hash_of}
use Rattle.page_tree.specs.Nodes.{leaves_from}
use Rattle.page_tree.proofs.sha.ShaPagesPageHash.leaves.Goals as goal

pub returns-clause-value : goal.returns-clause-value
unfolding leaves_from hash_of
returns-clause-value g c = rw c.leaves_x8.ensures refl
