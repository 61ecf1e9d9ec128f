use Rattle.std.proofs.Common.{◌≡◌, ◌-◌}
use Rattle.avm_num.specs.Lists.{list_at, left_of}
use Rattle.avm_model.specs.HeadReading.{peer_at}
use Rattle.snap_state.proofs.peers.pass_peers.Given as goal

abbrev pub invariant-loop : goal.invariant-loop
invariant-loop l = left_of (list_at peer_at (l.count - l.counter) l.view) ≡ left_of (list_at peer_at l.count l.fn.view)
