-- The content of an entry, by its kind (docs/FORMATS.md, "Entries").
use Rattle.std.specs.Prelude.{◌≡◌, ℕ, ◌^◌, ◌<◌, ◌≤◌, ◌==◌, ◌&&◌, nat_le, List, ◌++◌, length, Option, None, option_map, is_some, if◌then◌else◌}
use Rattle.std.specs.Int.{w32, w64}
use Rattle.avm_num.specs.Bytes.{◌>>=◌, number_at, kept}
use Rattle.avm_num.specs.Lists.{be}
use Rattle.avm_num.specs.Walk.{is_nil}
use Rattle.avm_model.specs.Parts.{count_at}
use Rattle.avm_model.specs.Packet.{SendData, send_bytes, FitsSend, send_behind, RecvData, recv_bytes, FitsRecv, recv_behind, IsAck, ack_at}

-- Each has the count of its step, and then: a root; a root; console bytes; a clock value; a DATA packet; an ACK packet; a
-- line; a peer, a number and a payload; a cause and a value.
pub data ContentData : Type 0 where
  boot : ℕ → List ℕ → ContentData
  snap : ℕ → List ℕ → ContentData
  conin : ℕ → List ℕ → ContentData
  clock : ℕ → ℕ → ContentData
  recv : ℕ → List ℕ → ContentData
  acked : ℕ → List ℕ → ContentData
  out : ℕ → List ℕ → ContentData
  send : ℕ → ℕ → ℕ → List ℕ → ContentData
  halt : ℕ → ℕ → ℕ → ContentData

abbrev pub kind_of : ContentData → ℕ
kind_of (boot count root) = 1
kind_of (snap count root) = 2
kind_of (conin count bytes) = 3
kind_of (clock count value) = 4
kind_of (recv count packet) = 5
kind_of (acked count packet) = 6
kind_of (out count bytes) = 7
kind_of (send count peer number payload) = 8
kind_of (halt count cause value) = 9

abbrev pub count_of : ContentData → ℕ
count_of (boot count root) = count
count_of (snap count root) = count
count_of (conin count bytes) = count
count_of (clock count value) = count
count_of (recv count packet) = count
count_of (acked count packet) = count
count_of (out count bytes) = count
count_of (send count peer number payload) = count
count_of (halt count cause value) = count

abbrev pub send_data : ℕ → ℕ → ℕ → List ℕ → SendData
send_data count peer number payload = record { count = count; peer = peer; number = number; payload = payload }

abbrev pub recv_data : ℕ → List ℕ → RecvData
recv_data count packet = record { count = count; packet = packet }

-- the spelling
abbrev pub content_bytes : ContentData → List ℕ
content_bytes (boot count root) = be w64 count ++ root
content_bytes (snap count root) = be w64 count ++ root
content_bytes (conin count bytes) = be w64 count ++ bytes
content_bytes (clock count value) = be w64 count ++ be w64 value
content_bytes (recv count packet) = recv_bytes (recv_data count packet)
content_bytes (acked count packet) = be w64 count ++ packet
content_bytes (out count bytes) = be w64 count ++ bytes
content_bytes (send count peer number payload) = send_bytes (send_data count peer number payload)
content_bytes (halt count cause value) = be w64 count ++ (be w32 cause ++ be w32 value)

-- what has a spelling
abbrev pub FitsContent : ContentData → Type 0
FitsContent (boot count root) = (count ≡ 0) × (length root ≡ 32)
FitsContent (snap count root) = (count < 2 ^ 62) × (length root ≡ 32)
FitsContent (conin count bytes) = (count < 2 ^ 62) × (1 ≤ length bytes) × (length bytes ≤ 256)
FitsContent (clock count value) = (count < 2 ^ 62) × (value < 2 ^ 64)
FitsContent (recv count packet) = FitsRecv (recv_data count packet)
FitsContent (acked count packet) = (count < 2 ^ 62) × IsAck packet
FitsContent (out count bytes) = (count < 2 ^ 62) × (1 ≤ length bytes) × (length bytes ≤ 128)
FitsContent (send count peer number payload) = FitsSend (send_data count peer number payload)
FitsContent (halt count cause value) = (count < 2 ^ 62) × (cause < 2 ^ 32) × (value < 2 ^ 32)

-- reading what stands behind the count
abbrev pub boot_form : ℕ → List ℕ → Option ContentData
boot_form count rest = kept (count == 0 && length rest == 32) (boot count rest)

abbrev pub snap_form : ℕ → List ℕ → Option ContentData
snap_form count rest = kept (length rest == 32) (snap count rest)

abbrev pub conin_form : ℕ → List ℕ → Option ContentData
conin_form count rest = kept (nat_le 1 (length rest) && nat_le (length rest) 256) (conin count rest)

abbrev pub clock_form : ℕ → List ℕ → Option ContentData
clock_form count rest = do
  value ← number_at w64 rest
  kept (is_nil value.1) (clock count value.0)

abbrev pub recv_form : ℕ → List ℕ → Option ContentData
recv_form count rest = option_map (λ r. recv r.count r.packet) (recv_behind count rest)

abbrev pub acked_form : ℕ → List ℕ → Option ContentData
acked_form count rest = kept (is_some (ack_at rest)) (acked count rest)

abbrev pub out_form : ℕ → List ℕ → Option ContentData
out_form count rest = kept (nat_le 1 (length rest) && nat_le (length rest) 128) (out count rest)

abbrev pub send_form : ℕ → List ℕ → Option ContentData
send_form count rest = option_map (λ s. send s.count s.peer s.number s.payload) (send_behind count rest)

abbrev pub halt_form : ℕ → List ℕ → Option ContentData
halt_form count rest = do
  cause ← number_at w32 rest
  value ← number_at w32 cause.1
  kept (is_nil value.1) (halt count cause.0 value.0)

abbrev pub form_of_kind : ℕ → ℕ → List ℕ → Option ContentData
form_of_kind kind count rest =
    if kind == 1 then boot_form count rest else
    if kind == 2 then snap_form count rest else
    if kind == 3 then conin_form count rest else
    if kind == 4 then clock_form count rest else
    if kind == 5 then recv_form count rest else
    if kind == 6 then acked_form count rest else
    if kind == 7 then out_form count rest else
    if kind == 8 then send_form count rest else
    if kind == 9 then halt_form count rest else None

-- the content of a kind, to the last byte
unfoldable pub content_at : ℕ → List ℕ → Option ContentData
content_at kind bytes = count_at bytes >>= λ count. form_of_kind kind count.0 count.1
