use Rattle.page_tree.proofs.Kept.{tree_stale}
use Rattle.state_tests.proofs.trees.renewed.Goals as goal

pub touch_all-requires : goal.touch_all-requires
touch_all-requires g c = record { stale = tree_stale _ _ _ c.refresh-2.ensures.tree }
