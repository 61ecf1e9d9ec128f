-- What a load from the plain board says in the words of the definitions.
use Rattle.std.specs.Prelude.{◌≡◌, ℕ, ◌<◌, List}
use Rattle.avm_model.specs.Machine.{Board}
use Rattle.avm_model.specs.Exec.{Loaded, Gave as GaveOf, NotMapped as NothingOf, NoClock as NoClockOf}
use Rattle.avm_model.specs.declared.Peer.{Peer}
use Rattle.avm_plain.specs.declared.board.BoardLoad.{BoardLoad}
use Rattle.avm_plain.specs.declared.board.BoardLoad.TheVariants.{Gave, NotMapped, NoClock}

abbrev pub loaded_board : BoardLoad → Loaded Board
loaded_board (Gave value b) = GaveOf value b
loaded_board NotMapped = NothingOf
loaded_board NoClock = NoClockOf

-- a value that is loaded is below the bound
abbrev pub IsShort : ℕ → BoardLoad → Type 0
IsShort n (Gave value b) = value < n
IsShort n NotMapped = Unit {0}
IsShort n NoClock = Unit {0}

-- a load leaves the rows
abbrev pub PeersStay : List Peer → BoardLoad → Type 0
PeersStay peers (Gave value b) = b.devices.peers ≡ peers
PeersStay peers NotMapped = Unit {0}
PeersStay peers NoClock = Unit {0}
