use Rattle.std.proofs.Common.{◌≡◌, [], length}
use Rattle.serde_json.specs.View.{items_view}
use Rattle.avm_script.specs.Config.{peers_from}
use Rattle.avm_script.proofs.peers.peers_in.Given as goal

abbrev pub invariant-loop-left : goal.invariant-loop-left
invariant-loop-left l = peers_from (items_view l.left) l.peers.items ≡ peers_from (items_view l.fn.items) []

abbrev pub decreases-loop-left : goal.decreases-loop-left
decreases-loop-left l = length l.left
