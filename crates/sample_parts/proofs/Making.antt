-- The bytes of contents.
use Rattle.std.proofs.Common.{◌≡◌, ℕ, ◌+◌, ◌≤◌, List, [], ◌++◌, length, refl, sym, ap, ◌∙◌, append_assoc, length-append, arith}
use Rattle.std.specs.Int.{w32, w64}
use Rattle.avm_model.specs.Packet.{RecvData, SendData, recv_bytes, send_bytes}
use Rattle.avm_num.specs.Lists.{be}
use Rattle.avm_num.specs.Room.{Buffer, with_bytes}
use Rattle.avm_num.proofs.Lengths.{be64}
use Rattle.log_entry.proofs.Lengths.{send_length}
use Rattle.log_entry.proofs.PacketLaws.{recv_parts, send_parts}

pub send_whole : (a b c d e : Buffer) (s : SendData) → a.bytes ≡ [] → b ≡ with_bytes a (be w64 s.count) → c ≡ with_bytes b (be w32 s.peer) → d ≡ with_bytes c (be w64 s.number) → e ≡ with_bytes d s.payload → e.bytes ≡ send_bytes s
send_whole a b c d e s none p q r t =
    let all : e.bytes ≡ ((([] ++ be w64 s.count) ++ be w32 s.peer) ++ be w64 s.number) ++ s.payload = rw (t, r, q, p, none) refl in
    let whole : ((be w64 s.count ++ be w32 s.peer) ++ be w64 s.number) ++ s.payload ≡ be w64 s.count ++ (be w32 s.peer ++ (be w64 s.number ++ s.payload)) = simp append_assoc in
    all ∙ whole ∙ sym (send_parts s)

pub recv_whole : (a b c : Buffer) (r : RecvData) → a.bytes ≡ [] → b ≡ with_bytes a (be w64 r.count) → c ≡ with_bytes b r.packet → c.bytes ≡ recv_bytes r
recv_whole a b c r none p q =
    let all : c.bytes ≡ ([] ++ be w64 r.count) ++ r.packet = rw (q, p, none) refl in
    all ∙ sym (recv_parts r)

pub send_few : (bytes : List ℕ) (s : SendData) → bytes ≡ send_bytes s → length s.payload ≤ 1024 → length bytes ≤ 10429
send_few bytes s e few = let n : length bytes ≡ 20 + length s.payload = ap length e ∙ send_length s in omega (arith, n, few)

pub recv_few : (bytes : List ℕ) (r : RecvData) → bytes ≡ recv_bytes r → length r.packet ≤ 10421 → length bytes ≤ 10429
recv_few bytes r e few =
    let n : length bytes ≡ length (be w64 r.count ++ r.packet) = ap length (e ∙ recv_parts r) in
    omega (arith, n, length-append (be w64 r.count) r.packet, be64 r.count, few)
