-- How long contents and packets are.
use Rattle.std.proofs.Common.{◌≡◌, ℕ, ◌+◌, ◌≤◌, List, ◌++◌, length, Option, Some, None, IfSome, refl, ap, ◌∙◌, arith}
use Rattle.std.specs.Int.{w32, w64}
use Rattle.std.proofs.lemmas.List.{length-append}
use Rattle.avm_num.specs.Lists.{be, one, sized_bytes}
use Rattle.avm_model.specs.Packet.{SendData, send_bytes, PacketData, packet_bytes, FitsPacket, IsData, RecvData, recv_bytes, FitsRecv, IsAck}
use Rattle.avm_model.specs.Content.{ContentData, boot, snap, conin, clock, recv, acked, out, send, halt, send_data, recv_data, content_bytes, FitsContent}
use Rattle.avm_model.specs.Frame.{FrameData, frame_bytes, FitsFrame}
use Rattle.log_entry.specs.declared.frame.Frame.{Frame}
use Rattle.log_entry.specs.Limits.{longest_content}
use Rattle.log_entry.specs.Views.{frame_view}

be32 : (n : ℕ) → length (be w32 n) ≡ 4
unfolding be
be32 n = refl

be64 : (n : ℕ) → length (be w64 n) ≡ 8
unfolding be
be64 n = refl

one1 : (n : ℕ) → length (one n) ≡ 1
unfolding one
one1 n = refl

pub send_length : (s : SendData) → length (send_bytes s) ≡ 20 + length s.payload
unfolding send_bytes
send_length s = omega (arith, length-append (be w64 s.count ++ be w32 s.peer ++ be w64 s.number) s.payload, length-append (be w64 s.count ++ be w32 s.peer) (be w64 s.number), length-append (be w64 s.count) (be w32 s.peer), be64 s.count, be32 s.peer, be64 s.number)

sized_length : (x : List ℕ) → length (sized_bytes (be w32) x) ≡ 4 + length x
sized_length x = omega (arith, length-append (be w32 (length x)) x, be32 (length x))

parts6 : (a b c d e f : List ℕ) → length (a ++ b ++ c ++ d ++ e ++ f) ≡ length a + length b + length c + length d + length e + length f
parts6 a b c d e f = omega (arith, length-append (a ++ b ++ c ++ d ++ e) f, length-append (a ++ b ++ c ++ d) e, length-append (a ++ b ++ c) d, length-append (a ++ b) c, length-append a b)

pub packet_length : (tag : ℕ) (p : PacketData) → FitsPacket p → length (packet_bytes tag p) ≡ 53 + length p.content + length p.sig
unfolding packet_bytes
packet_length tag p fits = omega (arith, parts6 (one tag) (be w32 p.from) (be w64 p.seq) p.before (sized_bytes (be w32) p.content) (sized_bytes (be w32) p.sig), one1 tag, be32 p.from, be64 p.seq, fits.before, sized_length p.content, sized_length p.sig)

pub data_limit : (bytes : List ℕ) → IsData bytes → length bytes ≤ 10421
data_limit bytes is =
    let p = is.0 in
    let s = is.1.send in
    let whole : length bytes ≡ 53 + length p.content + length p.sig = ap length is.2 ∙ packet_length 1 p is.1.packet in
    let inner : length p.content ≡ 20 + length s.0.payload = ap length s.2 ∙ send_length s.0 in
    omega (arith, whole, inner, s.1.payload, is.1.packet.sig)

pub recv_limit : (r : RecvData) → FitsRecv r → length (recv_bytes r) ≤ 10429
unfolding recv_bytes
recv_limit r fits = omega (arith, length-append (be w64 r.count) r.packet, be64 r.count, data_limit r.packet fits.packet)

pub ack_limit : (bytes : List ℕ) → IsAck bytes → length bytes ≤ 19806
ack_limit bytes is =
    let p = is.0 in
    let r = is.1.recv in
    let whole : length bytes ≡ 53 + length p.content + length p.sig = ap length is.2 ∙ packet_length 2 p is.1.packet in
    let inner : length p.content ≡ length (recv_bytes r.0) = ap length r.2 in
    omega (arith, whole, inner, recv_limit r.0 r.1, is.1.packet.sig)

behind_count : (count : ℕ) (rest : List ℕ) → length (be w64 count ++ rest) ≡ 8 + length rest
behind_count count rest = omega (arith, length-append (be w64 count) rest, be64 count)

pub content_limit : (c : ContentData) → FitsContent c → length (content_bytes c) ≤ longest_content
content_limit (boot count root) h = omega (arith, behind_count count root, h.1)
content_limit (snap count root) h = omega (arith, behind_count count root, h.1)
content_limit (conin count bytes) h = omega (arith, behind_count count bytes, h.2)
content_limit (clock count value) h = omega (arith, behind_count count (be w64 value), be64 value)
content_limit (recv count packet) h = omega (arith, recv_limit (recv_data count packet) h)
content_limit (acked count packet) h = omega (arith, behind_count count packet, ack_limit packet h.1)
content_limit (out count bytes) h = omega (arith, behind_count count bytes, h.2)
content_limit (send count peer number payload) h = omega (arith, send_length (send_data count peer number payload), h.payload)
content_limit (halt count cause value) h = omega (arith, behind_count count (be w32 cause ++ be w32 value), length-append (be w32 cause) (be w32 value), be32 cause, be32 value)

pub frame_limit : (f : FrameData) → FitsFrame f → length f.content ≤ longest_content
frame_limit f fits =
    let c = fits.form in
    let same : length (content_bytes c.0) ≡ length f.content = ap length c.3 in
    omega (arith, same, content_limit c.0 c.1)

pub few : (r : Option Frame) (old new : List ℕ) → IfSome r (λ f. FitsFrame (frame_view f) × (old ≡ frame_bytes (frame_view f) ++ new)) → IfSome r (λ f. length f.content.now ≤ longest_content)
few None old new h = tt
few (Some f) old new h = frame_limit (frame_view f) h.0
