-- Contents, frames and packets without where they lie in memory.
use Rattle.avm_model.specs.Content.{ContentData, boot, snap, conin, clock, recv, acked, out, send, halt}
use Rattle.avm_model.specs.Frame.{FrameData}
use Rattle.avm_model.specs.Packet.{PacketData}
use Rattle.log_entry.specs.declared.kinds.Content.{Content}
use Rattle.log_entry.specs.declared.kinds.Content.TheVariants as content
use Rattle.log_entry.specs.declared.frame.Frame.{Frame}
use Rattle.log_entry.specs.declared.packet.Body.{Body}

abbrev pub content_view : Content → ContentData
content_view (content.Boot count root) = boot count root
content_view (content.Snap count root) = snap count root
content_view (content.ConIn count bytes) = conin count bytes.now
content_view (content.Clock count value) = clock count value
content_view (content.Recv count packet) = recv count packet.now
content_view (content.Acked count packet) = acked count packet.now
content_view (content.Out count bytes) = out count bytes.now
content_view (content.Send count peer number payload) = send count peer number payload.now
content_view (content.Halt count cause value) = halt count cause value

abbrev pub frame_view : Frame → FrameData
frame_view f = record { seq = f.seq; kind = f.kind; content = f.content.now }

abbrev pub body_view : Body → PacketData
body_view b = record { from = b.from; seq = b.seq; before = b.before.0; content = b.content.now; sig = b.sig.now }
