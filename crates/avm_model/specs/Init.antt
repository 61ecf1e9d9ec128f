-- The state in which a machine boots.
use Rattle.std.specs.Prelude.{ℕ, List}
use Rattle.avm_model.specs.Bell.{bell_of}
use Rattle.avm_model.specs.Device.{fresh_with}
use Rattle.avm_model.specs.Machine.{State, initial}
use Rattle.avm_model.specs.declared.Peer.{Peer}

-- a configuration: the machine's version, 1 or 2, own id, pages of RAM, the number of steps between two snapshots, and the peers,
-- whose counters are 0
pub record ConfigData : Type 0 where
  pub version : ℕ
  pub own : ℕ
  pub pages : ℕ
  pub snap : ℕ
  pub peers : List Peer

-- Registers 0, count 0, Running, the RAM and the entry that the image gives, devices that hold nothing, and an
-- idle bell in version 2.
abbrev pub Init : ConfigData → List ℕ → ℕ → State
Init config ram entry = initial (fresh_with (bell_of config.version) config.own config.peers) ram config.snap entry
