use Rattle.std.proofs.Common.{drop}
use Rattle.std.specs.List.{AllByRecursion}
use Rattle.avm_model.specs.Head.{FitsPeer}
use Rattle.snap_state.proofs.fitting.are_peers.Given as goal

abbrev pub invariant-loop-peer : goal.invariant-loop-peer
invariant-loop-peer l = AllByRecursion FitsPeer (drop l.peer-index l.peers) → AllByRecursion FitsPeer l.fn.peers
