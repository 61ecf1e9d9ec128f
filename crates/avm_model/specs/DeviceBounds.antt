-- What the devices keep between two accesses: the bounds of a head (docs/FORMATS.md, Head) that speak of them. The line alone
-- may be longer than in a head, since a line of 128 bytes is emitted at the end of its step.
use Rattle.std.specs.Prelude.{ℕ, ◌-◌, ◌^◌, ◌<◌, ◌≤◌, List, length, IsTrue}
use Rattle.avm_model.specs.Bell.{is_bell}
use Rattle.avm_model.specs.Device.{DeviceState, MessageState}
use Rattle.avm_model.specs.Bounds.{are_rows, none_past, are_messages}
use Rattle.avm_model.specs.declared.Peer.{Peer}

-- rows within their bounds, with numbers below 2 ^ 62, and messages of known peers
pub record IsPeered (own : ℕ) (peers : List Peer) (messages : List MessageState) : Type 0 where
  pub self : own < 16
  pub rows : IsTrue (are_rows own 0 peers)
  pub sent : IsTrue (none_past (2 ^ 62 - 1) peers)
  pub known : IsTrue (are_messages peers messages)

pub record IsDevices (d : DeviceState) : Type 0 where
  pub peered : IsPeered d.own d.peers d.messages
  pub line : length d.line ≤ 128
  pub console : length d.console ≤ 1024
  pub messages : length d.messages ≤ 8
  pub result : d.tx_result ≤ 3
  pub bell : IsTrue (is_bell d.bell)
