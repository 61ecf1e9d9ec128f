-- What the plain program's answers say in the words of the definitions.
use Rattle.std.specs.Prelude.{◌≡◌, List}
use Rattle.avm_model.specs.Device.{DeviceState}
use Rattle.avm_model.specs.Exec.{Loaded, Gave as GaveOf, NotMapped as NothingOf, NoClock as NoClockOf}
use Rattle.avm_model.specs.declared.Peer.{Peer}
use Rattle.avm_plain.specs.declared.accesses.DeviceLoad.{DeviceLoad}
use Rattle.avm_plain.specs.declared.accesses.DeviceLoad.TheVariants.{Gave, NotMapped, NoClock}

abbrev pub loaded_devices : DeviceLoad → Loaded DeviceState
loaded_devices (Gave value d) = GaveOf value d
loaded_devices NotMapped = NothingOf
loaded_devices NoClock = NoClockOf

-- a load leaves the rows
abbrev pub PeersStay : List Peer → DeviceLoad → Type 0
PeersStay peers (Gave value d) = d.peers ≡ peers
PeersStay peers NotMapped = Unit {0}
PeersStay peers NoClock = Unit {0}
