use Rattle.std.proofs.Common.{◌≡◌, ◌≤◌, ◌-◌, length, take, drop, ◌++◌, Some}
use Rattle.avm_num.specs.Bytes.{◌>>=◌}
use Rattle.avm_script.specs.Config.{placed}
use Rattle.avm_script.proofs.peers.place.Given as goal

abbrev pub invariant-loop-at : goal.invariant-loop-at
invariant-loop-at l = (l.at ≤ length l.peers.items) × (placed l.peer l.peers.items ≡ (placed l.peer (drop l.at l.peers.items) >>= λ rest. Some (take l.at l.peers.items ++ rest)))

abbrev pub decreases-loop-at : goal.decreases-loop-at
decreases-loop-at l = length l.peers.items - l.at
