-- From a head and a RAM to a state, and back.
use Rattle.std.specs.Prelude.{ℕ, ◌/◌, List, ◌∷◌, length, drop, None}
use Rattle.avm_model.specs.Machine.{State}
use Rattle.avm_model.specs.Head.{HeadData}

-- the state of a head's data with a RAM: register 0 is 0, and no clock value is pending
abbrev pub state_of : HeadData → List ℕ → State
state_of h ram = record {
  hart = record { x = 0 ∷ h.hart.x; pc = h.hart.pc };
  ram = ram;
  devices = record {
    own = h.front.own;
    peers = h.front.peers;
    line = h.queues.line;
    console = h.queues.console;
    messages = h.queues.messages;
    latch = h.queues.latch;
    clock = None;
    tx_peer = h.transmit.peer;
    tx_len = h.transmit.len;
    tx_result = h.transmit.result;
    window = h.transmit.window;
    bell = h.bell;
  };
  snap = h.front.snap;
  count = h.hart.count;
  status = h.hart.status;
}

-- the head's data of a state: all but register 0, the RAM's bytes and a pending clock value
abbrev pub data_of : State → HeadData
data_of s = record {
  front = record { own = s.devices.own; snap = s.snap; pages = length s.ram / 4096; peers = s.devices.peers };
  hart = record { x = drop 1 s.hart.x; pc = s.hart.pc; count = s.count; status = s.status };
  queues = record { latch = s.devices.latch; line = s.devices.line; console = s.devices.console; messages = s.devices.messages };
  transmit = record { peer = s.devices.tx_peer; len = s.devices.tx_len; result = s.devices.tx_result; window = s.devices.window };
  bell = s.devices.bell;
}
