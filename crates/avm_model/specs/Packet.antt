-- Packets between nodes, and the two contents that stand in them (docs/FORMATS.md, "Packets"). DATA carries the content
-- of a SEND entry, ACK that of a RECV entry, which holds a DATA packet.
use Rattle.std.specs.Prelude.{◌≡◌, ℕ, ◌^◌, ◌<◌, ◌≤◌, ◌&&◌, nat_le, List, ◌++◌, length, Option, Some, is_some}
use Rattle.std.specs.Int.{w32, w64}
use Rattle.avm_num.specs.Bytes.{◌>>=◌, number_at, piece_at, byte_at, kept}
use Rattle.avm_num.specs.Lists.{be, one, exact_at, sized_at, sized_bytes}
use Rattle.avm_num.specs.Walk.{is_nil}
use Rattle.avm_model.specs.Parts.{count_at, IsOrdinal, ordinal_at, longest_signature, signature_at}

-- the content of a SEND entry: a message of a number to a peer
pub record SendData : Type 0 where
  pub count : ℕ
  pub peer : ℕ
  pub number : ℕ
  pub payload : List ℕ

unfoldable pub send_bytes : SendData → List ℕ
send_bytes s = be w64 s.count ++ be w32 s.peer ++ be w64 s.number ++ s.payload

pub record FitsSend (s : SendData) : Type 0 where
  pub count : s.count < 2 ^ 62
  pub peer : s.peer < 2 ^ 32
  pub number : IsOrdinal s.number
  pub payload : length s.payload ≤ 1024

-- what stands behind the count
unfoldable pub send_behind : ℕ → List ℕ → Option SendData
send_behind count rest = do
  peer ← number_at w32 rest
  number ← ordinal_at peer.1
  kept (nat_le (length number.1) 1024) (record { count = count; peer = peer.0; number = number.0; payload = number.1 })

unfoldable pub send_at : List ℕ → Option SendData
send_at bytes = count_at bytes >>= λ count. send_behind count.0 count.1

-- a packet: its sender, the number of the entry that its sender committed to, the hash before it, that entry's content,
-- and the signature
pub record PacketData : Type 0 where
  pub from : ℕ
  pub seq : ℕ
  pub before : List ℕ
  pub content : List ℕ
  pub sig : List ℕ

unfoldable pub packet_bytes : ℕ → PacketData → List ℕ
packet_bytes tag p = one tag ++ be w32 p.from ++ be w64 p.seq ++ p.before ++ sized_bytes (be w32) p.content ++ sized_bytes (be w32) p.sig

pub record FitsPacket (p : PacketData) : Type 0 where
  pub from : p.from < 2 ^ 32
  pub seq : IsOrdinal p.seq
  pub before : length p.before ≡ 32
  pub content : length p.content < 2 ^ 32
  pub sig : length p.sig ≤ longest_signature

unfoldable pub packet_at : ℕ → List ℕ → Option (PacketData × List ℕ)
packet_at tag bytes = do
  first ← exact_at byte_at tag bytes
  from ← number_at w32 first.1
  seq ← ordinal_at from.1
  before ← piece_at 32 seq.1
  content ← sized_at (number_at w32) before.1
  sig ← signature_at content.1
  Some (record { from = from.0; seq = seq.0; before = before.0; content = content.0; sig = sig.0 }, sig.1)

-- a DATA packet begins with 1
abbrev pub data_bytes : PacketData → List ℕ
data_bytes p = packet_bytes 1 p

pub record FitsData (p : PacketData) : Type 0 where
  pub packet : FitsPacket p
  pub send : (s : SendData) × FitsSend s × (p.content ≡ send_bytes s)

-- the bytes are a DATA packet to their last byte
unfoldable pub data_at : List ℕ → Option PacketData
data_at bytes = do
  p ← packet_at 1 bytes
  kept (is_nil p.1 && is_some (send_at p.0.content)) p.0

abbrev pub IsData : List ℕ → Type 0
IsData bytes = (p : PacketData) × FitsData p × (bytes ≡ data_bytes p)

-- the content of a RECV entry: the DATA packet that came
pub record RecvData : Type 0 where
  pub count : ℕ
  pub packet : List ℕ

unfoldable pub recv_bytes : RecvData → List ℕ
recv_bytes r = be w64 r.count ++ r.packet

pub record FitsRecv (r : RecvData) : Type 0 where
  pub count : r.count < 2 ^ 62
  pub packet : IsData r.packet

-- what stands behind the count
unfoldable pub recv_behind : ℕ → List ℕ → Option RecvData
recv_behind count rest = kept (is_some (data_at rest)) (record { count = count; packet = rest })

unfoldable pub recv_at : List ℕ → Option RecvData
recv_at bytes = count_at bytes >>= λ count. recv_behind count.0 count.1

-- an ACK packet begins with 2
abbrev pub ack_bytes : PacketData → List ℕ
ack_bytes p = packet_bytes 2 p

pub record FitsAck (p : PacketData) : Type 0 where
  pub packet : FitsPacket p
  pub recv : (r : RecvData) × FitsRecv r × (p.content ≡ recv_bytes r)

-- the bytes are an ACK packet to their last byte
unfoldable pub ack_at : List ℕ → Option PacketData
ack_at bytes = do
  p ← packet_at 2 bytes
  kept (is_nil p.1 && is_some (recv_at p.0.content)) p.0

abbrev pub IsAck : List ℕ → Type 0
IsAck bytes = (p : PacketData) × FitsAck p × (bytes ≡ ack_bytes p)
