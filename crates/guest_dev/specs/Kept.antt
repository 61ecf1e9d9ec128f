-- What the fields of the devices keep.
use Rattle.std.specs.Prelude.{◌≡◌, ℕ, ◌≤◌, Bool, true, List, length, Option, is_some, IsTrue}
use Rattle.avm_model.specs.Bell.{is_bell}
use Rattle.avm_model.specs.Device.{MessageState}
use Rattle.avm_model.specs.DeviceBounds.{IsPeered}
use Rattle.avm_model.specs.declared.Bell.{Bell}
use Rattle.avm_model.specs.declared.Peer.{Peer}
use Rattle.circular_buffer.specs.Buffer.{Buffer}

pub record IsKept (len : ℕ) (ring : Buffer ℕ) (queue : List MessageState) (last own : ℕ) (peers : List Peer) (ringing : Option Bell) (returns : Bool) : Type 0 where
  pub line : len ≤ 128
  pub capacity : ring.capacity ≡ 1024
  pub console : length ring.items ≤ 1024
  pub messages : length queue ≤ 8
  pub result : last ≤ 3
  pub peered : IsPeered own peers queue
  pub bell : IsTrue (is_bell ringing)
  -- only a machine with a bell asks for a return
  pub asked : returns ≡ true → is_some ringing ≡ true
