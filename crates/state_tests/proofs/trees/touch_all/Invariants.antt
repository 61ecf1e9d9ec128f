use Rattle.avm_model.specs.Pages.{sha_hashes}
use Rattle.page_tree.specs.Nodes.{IsStale}
use Rattle.state_tests.proofs.trees.touch_all.Given as goal

abbrev pub invariant-loop-page : goal.invariant-loop-page
invariant-loop-page l = IsStale sha_hashes l.ram l.tree
