-- The devices of the code, and the registers that a head holds.
use Rattle.std.specs.Prelude.{ℕ, ◌≤◌, ◌<◌, ◌^◌, ◌||◌, Bool, Option, Some, None}
use Rattle.avm_model.specs.Bell.{new_bell}
use Rattle.avm_model.specs.Device.{DeviceState, returns_by}
use Rattle.avm_model.specs.declared.Bell.{Bell}
use Rattle.avm_model.specs.declared.Sent.{Sent}
use Rattle.guest_dev.specs.declared.devices.Regs.{Regs}

-- the state, and whether a return from the handler was asked for and not taken yet
pub record DevicesState : Type 0 where
  pub state : DeviceState
  pub returns : Bool

-- a message that is sent: at most 1024 bytes, and a number from 1 to 2 ^ 62 - 1
pub record IsSent (s : Sent) : Type 0 where
  pub len : s.len ≤ 1024
  pub first : 1 ≤ s.number
  pub below : s.number < 2 ^ 62

abbrev pub regs_of : DeviceState → Regs
regs_of d = record { latch = d.latch; peer = d.tx_peer; len = d.tx_len; result = d.tx_result }

abbrev pub with_regs : DeviceState → Regs → DeviceState
with_regs d r = record d { latch = r.latch; tx_peer = r.peer; tx_len = r.len; tx_result = r.result }

-- the bell that is shown: zeros in version 1
abbrev pub bell_or_zeros : Option Bell → Bell
bell_or_zeros None = new_bell
bell_or_zeros (Some b) = b

-- the devices after a store, which may be refused
abbrev pub stored_devices : DevicesState → ℕ → Option DeviceState → DevicesState
stored_devices d address (Some s) = record { state = s; returns = d.returns || returns_by d.state address }
stored_devices d address None = d
