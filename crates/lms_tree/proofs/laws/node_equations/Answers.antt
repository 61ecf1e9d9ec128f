use Rattle.avm_model.proofs.LmsNodes.{node-leaf, node-inner, climb_path}
use Rattle.avm_model.proofs.LmsLaw.{node-length}
use Rattle.avm_model.specs.LmsTypes.{height_of}
use Rattle.avm_model.specs.LmsTree.{node}
use Rattle.std.proofs.Common.{◌^◌, ◌+◌, arith}
use Rattle.lms_tree.proofs.laws.node_equations.Goals as goal

pub returns-clause-leaves : goal.returns-clause-leaves
returns-clause-leaves c lms ots q id seed = node-leaf lms ots id seed q

pub returns-clause-inner : goal.returns-clause-inner
returns-clause-inner c lms ots r id seed = node-inner lms ots id seed r

pub returns-clause-climbs : goal.returns-clause-climbs
returns-clause-climbs c lms ots q id seed lt =
    climb_path id (2 ^ height_of lms) (node lms ots id seed) (node-inner lms ots id seed) (node-length lms ots id seed) (height_of lms) (2 ^ height_of lms + q) (omega arith) (omega arith) (omega arith)
