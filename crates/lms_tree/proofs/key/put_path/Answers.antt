use Rattle.std.proofs.Common.{refl, arith}
use Rattle.lms_tree.specs.Key.{node_at}
use Rattle.lms_tree.proofs.Paths.{put_path_more}
use Rattle.lms_tree.proofs.key.put_path.Goals as goal

pub loop-i-preserved : goal.loop-i-preserved
loop-i-preserved c = (
  omega arith,
  omega arith,
  put_path_more c.args.out.now c.loop-i.out c.put.new.self _ (node_at c.args.nodes.now) c.args.h c.loop-i.i c.loop-i.r c.args.leaf c.loop-i-test.true c.put.ensures.value (rw c.beside_of.ensures refl) c.loop-i.invariant.2,
)
