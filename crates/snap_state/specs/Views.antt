-- What the code reads, without where it lies in memory.
use Rattle.avm_model.specs.Device.{MessageState}
use Rattle.avm_model.specs.Head.{FrontData, HartData, QueuesData, TransmitData, HeadData}
use Rattle.snap_state.specs.declared.messages.Message.{Message}
use Rattle.snap_state.specs.declared.parts.FrontParts.{FrontParts}
use Rattle.snap_state.specs.declared.parts.HartParts.{HartParts}
use Rattle.snap_state.specs.declared.parts.QueuesParts.{QueuesParts}
use Rattle.snap_state.specs.declared.parts.TransmitParts.{TransmitParts}
use Rattle.snap_state.specs.declared.parts.HeadParts.{HeadParts}

abbrev pub message_view : Message → MessageState
message_view m = record { peer = m.peer; payload = m.payload.now }

abbrev pub front_view : FrontParts → FrontData
front_view f = record { own = f.own; snap = f.snap; pages = f.pages; peers = f.peers }

abbrev pub hart_view : HartParts → HartData
hart_view h = record { x = h.x; pc = h.pc; count = h.count; status = h.status }

abbrev pub queues_view : QueuesParts → QueuesData
queues_view q = record { latch = q.latch; line = q.line.now; console = q.console.now; messages = q.messages }

abbrev pub transmit_view : TransmitParts → TransmitData
transmit_view t = record { peer = t.peer; len = t.len; result = t.result; window = t.window.now }

abbrev pub head_view : HeadParts → HeadData
head_view h = record { front = front_view h.front; hart = hart_view h.hart; queues = queues_view h.queues; transmit = transmit_view h.transmit; bell = h.bell }
