-- The bytes of what is made.
use Rattle.std.proofs.Common.{◌≡◌, ℕ, ◌+◌, ◌≤◌, List, [], ◌∷◌, ◌++◌, length, refl, sym, ap, ◌∙◌, append_assoc, length-append, arith}
use Rattle.std.specs.Int.{w32, w64}
use Rattle.avm_model.specs.Content.{content_bytes, recv, recv_data, send, send_data}
use Rattle.avm_model.specs.Packet.{PacketData, packet_bytes}
use Rattle.avm_num.specs.Lists.{be, one, sized_bytes}
use Rattle.avm_num.specs.Room.{Buffer, with_bytes}
use Rattle.avm_num.proofs.Lengths.{be32, be64, one1}
use Rattle.log_entry.proofs.Lengths.{send_length}
use Rattle.log_entry.proofs.PacketLaws.{recv_parts, send_parts}

pub send_whole : (a b c d e : Buffer) (count peer number : ℕ) (payload : List ℕ) → a.bytes ≡ [] → b ≡ with_bytes a (be w64 count) → c ≡ with_bytes b (be w32 peer) → d ≡ with_bytes c (be w64 number) → e ≡ with_bytes d payload → e.bytes ≡ content_bytes (send count peer number payload)
send_whole a b c d e count peer number payload none p q r t =
    let all : e.bytes ≡ ((([] ++ be w64 count) ++ be w32 peer) ++ be w64 number) ++ payload = rw (t, r, q, p, none) refl in
    let whole : ((be w64 count ++ be w32 peer) ++ be w64 number) ++ payload ≡ be w64 count ++ (be w32 peer ++ (be w64 number ++ payload)) = simp append_assoc in
    all ∙ whole ∙ sym (send_parts (send_data count peer number payload))

pub recv_whole : (a b c : Buffer) (count : ℕ) (packet : List ℕ) → a.bytes ≡ [] → b ≡ with_bytes a (be w64 count) → c ≡ with_bytes b packet → c.bytes ≡ content_bytes (recv count packet)
recv_whole a b c count packet none p q =
    let all : c.bytes ≡ ([] ++ be w64 count) ++ packet = rw (q, p, none) refl in
    all ∙ sym (recv_parts (recv_data count packet))

pub send_few : (bytes : List ℕ) (count peer number : ℕ) (payload : List ℕ) → bytes ≡ content_bytes (send count peer number payload) → length payload ≤ 1024 → length bytes ≤ 10429
send_few bytes count peer number payload e few = let n : length bytes ≡ 20 + length payload = ap length e ∙ send_length (send_data count peer number payload) in omega (arith, n, few)

pub recv_few : (bytes : List ℕ) (count : ℕ) (packet : List ℕ) → bytes ≡ content_bytes (recv count packet) → length packet ≤ 10421 → length bytes ≤ 10429
recv_few bytes count packet e few =
    let n : length bytes ≡ length (be w64 count ++ packet) = ap length (e ∙ recv_parts (recv_data count packet)) in
    omega (arith, n, length-append (be w64 count) packet, be64 count, few)

-- how many bytes a packet has
pub packet_long : (tag : ℕ) (p : PacketData) → length p.before ≡ 32 → length (packet_bytes tag p) ≡ 53 + length p.content + length p.sig
unfolding packet_bytes
packet_long tag p e =
    let c : ℕ = length (sized_bytes (be w32) p.content) in
    let s : ℕ = length (sized_bytes (be w32) p.sig) in
    omega (
      arith,
      e,
      one1 tag,
      be32 p.from,
      be64 p.seq,
      length-append (be w32 (length p.content)) p.content,
      length-append (be w32 (length p.sig)) p.sig,
      be32 (length p.content),
      be32 (length p.sig),
      length-append ((((one tag ++ be w32 p.from) ++ be w64 p.seq) ++ p.before) ++ sized_bytes (be w32) p.content) (sized_bytes (be w32) p.sig),
      length-append (((one tag ++ be w32 p.from) ++ be w64 p.seq) ++ p.before) (sized_bytes (be w32) p.content),
      length-append ((one tag ++ be w32 p.from) ++ be w64 p.seq) p.before,
      length-append (one tag ++ be w32 p.from) (be w64 p.seq),
      length-append (one tag) (be w32 p.from),
    )
