-- Reading a head from bytes (docs/FORMATS.md, Head).
use Rattle.std.specs.Prelude.{ℕ, ◌==◌, ◌&&◌, ◌||◌, List, length, Option, Some, None, if◌then◌else◌}
use Rattle.std.specs.Int.{w16, w32, w64}
use Rattle.avm_num.specs.Bytes.{◌>>=◌, number_at, piece_at, byte_at, kept}
use Rattle.avm_num.specs.Lists.{list_at, sized_at, many_at}
use Rattle.avm_model.specs.Device.{MessageState}
use Rattle.avm_model.specs.declared.Bell.{Bell}
use Rattle.avm_model.specs.declared.Peer.{Peer}
use Rattle.avm_model.specs.declared.Status.{Status}
use Rattle.avm_model.specs.declared.Status.TheVariants.{Running, Waiting, Halted}
use Rattle.avm_model.specs.Head.{FrontData, HartData, QueuesData, TransmitData, HeadData}
use Rattle.avm_model.specs.Bounds.{is_head}

abbrev pub status_of : ℕ → Option Status
status_of n = if n == 0 then Some Running else if n == 1 then Some Waiting else if n == 2 then Some Halted else None

abbrev pub status_at : List ℕ → Option (Status × List ℕ)
status_at bytes = do
  code ← byte_at bytes
  status ← status_of code.0
  Some (status, code.1)

unfoldable pub peer_at : List ℕ → Option (Peer × List ℕ)
peer_at bytes = do
  id ← byte_at bytes
  key ← piece_at 56 id.1
  sent ← number_at w64 key.1
  acked ← number_at w64 sent.1
  received ← number_at w64 acked.1
  Some (record { id = id.0; key = key.0; sent = sent.0; acked = acked.0; received = received.0 }, received.1)

unfoldable pub message_at : List ℕ → Option (MessageState × List ℕ)
message_at bytes = do
  peer ← byte_at bytes
  payload ← sized_at (number_at w16) peer.1
  Some (record { peer = peer.0; payload = payload.0 }, payload.1)

unfoldable pub front_at : List ℕ → Option (FrontData × List ℕ)
front_at bytes = do
  own ← byte_at bytes
  snap ← number_at w32 own.1
  pages ← number_at w32 snap.1
  peers ← many_at byte_at peer_at pages.1
  Some (record { own = own.0; snap = snap.0; pages = pages.0; peers = peers.0 }, peers.1)

unfoldable pub hart_at : List ℕ → Option (HartData × List ℕ)
hart_at bytes = do
  x ← list_at (number_at w32) 31 bytes
  pc ← number_at w32 x.1
  count ← number_at w64 pc.1
  status ← status_at count.1
  Some (record { x = x.0; pc = pc.0; count = count.0; status = status.0 }, status.1)

unfoldable pub queues_at : List ℕ → Option (QueuesData × List ℕ)
queues_at bytes = do
  latch ← number_at w32 bytes
  line ← sized_at byte_at latch.1
  console ← sized_at (number_at w16) line.1
  messages ← many_at byte_at message_at console.1
  Some (record { latch = latch.0; line = line.0; console = console.0; messages = messages.0 }, messages.1)

unfoldable pub transmit_at : List ℕ → Option (TransmitData × List ℕ)
transmit_at bytes = do
  peer ← number_at w32 bytes
  len ← number_at w32 peer.1
  result ← number_at w32 len.1
  window ← piece_at 1024 result.1
  Some (record { peer = peer.0; len = len.0; result = result.0; window = window.0 }, window.1)

-- 1 or 2
unfoldable pub version_at : List ℕ → Option (ℕ × List ℕ)
version_at bytes = do
  version ← byte_at bytes
  kept (version.0 == 1 || version.0 == 2) version

unfoldable pub words_at : List ℕ → Option (Bell × List ℕ)
words_at bytes = do
  vector ← number_at w32 bytes
  saved ← number_at w32 vector.1
  state ← byte_at saved.1
  Some (record { vector = vector.0; saved = saved.0; state = state.0 }, state.1)

-- the bell of a version, which version 1 doesn't have
unfoldable pub bell_at : ℕ → List ℕ → Option (Option Bell × List ℕ)
bell_at version bytes = if version == 2 then (words_at bytes >>= λ b. Some (Some b.0, b.1)) else Some (None, bytes)

-- the parts
unfoldable pub parts_at : List ℕ → Option (HeadData × List ℕ)
parts_at bytes = do
  version ← version_at bytes
  front ← front_at version.1
  hart ← hart_at front.1
  queues ← queues_at hart.1
  transmit ← transmit_at queues.1
  bell ← bell_at version.0 transmit.1
  Some (record { front = front.0; hart = hart.0; queues = queues.0; transmit = transmit.0; bell = bell.0 }, bell.1)

-- within the bounds, and nothing behind
unfoldable pub head_of : List ℕ → Option HeadData
head_of bytes = do
  h ← parts_at bytes
  kept (length h.1 == 0 && is_head h.0) h.0
