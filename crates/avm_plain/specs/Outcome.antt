-- What the plain program's instruction says in the words of the definitions.
use Rattle.std.specs.Prelude.{List}
use Rattle.avm_model.specs.Device.{Counted}
use Rattle.avm_model.specs.declared.Peer.{Peer}
use Rattle.avm_model.specs.Machine.{Board}
use Rattle.avm_model.specs.Exec.{Outcome as OutcomeOf, Goes as GoesOf, Waits as WaitsOf, Stops as StopsOf}
use Rattle.avm_plain.specs.declared.executing.Outcome.{Outcome}
use Rattle.avm_plain.specs.declared.executing.Outcome.TheVariants.{Goes, Waits, Stops}

abbrev pub outcome_of : Outcome → OutcomeOf Board
outcome_of (Goes h b) = GoesOf h b
outcome_of Waits = WaitsOf
outcome_of (Stops cause value) = StopsOf cause value

-- at most one more message is counted
abbrev pub CountsOne : List Peer → Outcome → Type 0
CountsOne peers (Goes h b) = Counted peers b.devices.peers
CountsOne peers Waits = Unit {0}
CountsOne peers (Stops cause value) = Unit {0}
