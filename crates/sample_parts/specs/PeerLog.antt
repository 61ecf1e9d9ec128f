-- The log of a sample's other node: a chain of its own, whose counts are its numbers (docs/FORMATS.md, "The sample").
use Rattle.std.specs.Prelude.{ℕ, ◌+◌, List, replicate}
use Rattle.avm_model.specs.Auth.{signed_text_of}
use Rattle.avm_model.specs.Chain.{next_hash}
use Rattle.avm_model.specs.Keys.{KeyData, sig_of}
use Rattle.avm_model.specs.Packet.{PacketData, ack_bytes, data_bytes, recv_bytes, send_bytes}

-- its key, the number of its last entry, and the chain's hash there
pub record PeerLog : Type 0 where
  pub key : KeyData
  pub last : ℕ
  pub hash : List ℕ

abbrev pub new_log : KeyData → PeerLog
new_log key = record { key = key; last = 0; hash = replicate 32 0 }

-- with one entry more: 8 is SEND, 5 is RECV
abbrev pub logged : PeerLog → ℕ → List ℕ → PeerLog
logged p kind content = record p { last = p.last + 1; hash = next_hash p.hash (record { seq = p.last + 1; kind = kind; content = content }) }

-- the packet of that entry, from node 1: entry k is signed at leaf k - 1
abbrev pub packet_of : PeerLog → PeerLog → List ℕ → PacketData
packet_of p now content = record {
  from = 1;
  seq = now.last;
  before = p.hash;
  content = content;
  sig = sig_of p.key p.last (signed_text_of now.last now.hash);
}

-- a message to node 0
abbrev pub send_content : PeerLog → ℕ → List ℕ → List ℕ
send_content p number payload = send_bytes (record { count = p.last + 1; peer = 0; number = number; payload = payload })

abbrev pub sending : PeerLog → ℕ → List ℕ → PeerLog
sending p number payload = logged p 8 (send_content p number payload)

abbrev pub data_of : PeerLog → ℕ → List ℕ → List ℕ
data_of p number payload = data_bytes (packet_of p (sending p number payload) (send_content p number payload))

-- the receipt of a DATA packet
abbrev pub recv_content : PeerLog → List ℕ → List ℕ
recv_content p packet = recv_bytes (record { count = p.last + 1; packet = packet })

abbrev pub receiving : PeerLog → List ℕ → PeerLog
receiving p packet = logged p 5 (recv_content p packet)

abbrev pub ack_of : PeerLog → List ℕ → List ℕ
ack_of p packet = ack_bytes (packet_of p (receiving p packet) (recv_content p packet))
