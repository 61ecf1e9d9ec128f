-- How long the other node's packets are.
use Rattle.std.proofs.Common.{◌≡◌, ℕ, ◌+◌, ◌*◌, ◌^◌, ◌<◌, ◌≤◌, List, length, ap, ◌∙◌, ◌++◌, length-append, arith}
use Rattle.std.specs.Int.{w64}
use Rattle.avm_model.proofs.KeyLaws.{sig_of-length}
use Rattle.avm_model.specs.Auth.{signed_text_of}
use Rattle.avm_model.specs.Keys.{KeyData, sig_of}
use Rattle.avm_model.specs.LmsTypes.{chains_of, height_of}
use Rattle.avm_model.specs.Packet.{FitsPacket, PacketData, packet_bytes}
use Rattle.avm_num.proofs.Lengths.{be64}
use Rattle.avm_num.specs.Lists.{be}
use Rattle.log_entry.proofs.Lengths.{packet_length, send_length}
use Rattle.log_entry.proofs.PacketLaws.{recv_parts}
use Rattle.sample_model.specs.Other.{Side}
use Rattle.sample_other.specs.Saying.{IsWithin}
use Rattle.sample_parts.specs.PeerLog.{ack_of, data_of, packet_of, receiving, recv_content, send_content, sending}

-- a feed may give it as a packet
pub record IsGivable (bytes : List ℕ) : Type 0 where
  pub some : 0 < length bytes
  pub few : length bytes ≤ 20000

sig_few : (k : KeyData) (q : ℕ) (text : List ℕ) → k.lms ≡ 6 → k.ots ≡ 4 → length (sig_of k q text) ≤ 9324
unfolding chains_of height_of
sig_few k q text l o =
    let n : length (sig_of k q text) ≡ 44 + 32 * chains_of 4 + 32 * height_of 6 = sig_of-length k q text ∙ ap (λ (x : ℕ). 44 + 32 * chains_of x + 32 * height_of k.lms) o ∙ ap (λ (x : ℕ). 44 + 32 * chains_of 4 + 32 * height_of x) l in
    omega (arith, n)

of_packet : (tag : ℕ) (p : PacketData) → FitsPacket p → length p.content ≤ 10429 → IsGivable (packet_bytes tag p)
of_packet tag p fits content =
    let n = packet_length tag p fits in
    record { some = omega (arith, n); few = omega (arith, n, content, fits.sig) }

-- the number of its next entry has a spelling
low : (b : Side) → IsWithin 1 b → b.log.last + 1 < 2 ^ 62
low b w = omega (arith, w.last, w.answers)

pub data_is : (b : Side) (number : ℕ) (payload : List ℕ) → IsWithin 1 b → length payload ≤ 1024 → IsGivable (data_of b.log number payload)
data_is b number payload w few =
    let p = packet_of b.log (sending b.log number payload) (send_content b.log number payload) in
    let n : length p.content ≡ 20 + length payload = send_length (record { count = b.log.last + 1; peer = 0; number = number; payload = payload }) in
    let content : length p.content ≤ 10429 = omega (arith, n, few) in
    of_packet 1 p (record { from = omega arith; seq = record { first = omega arith; below = low b w }; before = w.hash; content = omega (arith, content); sig = sig_few b.log.key b.log.last (signed_text_of (b.log.last + 1) (sending b.log number payload).hash) w.lms w.ots }) content

pub ack_is : (b : Side) (answer : List ℕ) → IsWithin 1 b → length answer ≤ 10421 → IsGivable (ack_of b.log answer)
ack_is b answer w few =
    let p = packet_of b.log (receiving b.log answer) (recv_content b.log answer) in
    let q : length p.content ≡ length (be w64 (b.log.last + 1) ++ answer) = ap length (recv_parts (record { count = b.log.last + 1; packet = answer })) in
    let content : length p.content ≤ 10429 = omega (arith, q, length-append (be w64 (b.log.last + 1)) answer, be64 (b.log.last + 1), few) in
    of_packet 2 p (record { from = omega arith; seq = record { first = omega arith; below = low b w }; before = w.hash; content = omega (arith, content); sig = sig_few b.log.key b.log.last (signed_text_of (b.log.last + 1) (receiving b.log answer).hash) w.lms w.ots }) content
