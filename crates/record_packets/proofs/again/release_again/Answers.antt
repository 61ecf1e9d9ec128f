use Rattle.std.proofs.Common.{ℕ, List, [], ◌∷◌, ap, sym, refl, ◌∙◌}
use Rattle.avm_model.specs.Packet.{PacketData}
use Rattle.avm_outside.specs.Outlet.{packet}
use Rattle.jrnl_store.specs.Kept.{kept as kept_of, ticket_view}
use Rattle.record_model.specs.Released.{Sender}
use Rattle.record_parts.proofs.Giving.{cuts_one}
use Rattle.record_press.specs.Press.{PressData}
use Rattle.record_packets.proofs.Parcels.{disk_rises, same_packet, some_all, some_with, whole_content}
use Rattle.record_packets.specs.Again.{packet_as}
use Rattle.record_packets.proofs.again.release_again.Goals as goal

pub returns-in-Err-clause-released : goal.returns-in-Err-clause-released
returns-in-Err-clause-released g c =
    some_all (g.D.Disk.seen c.args.disk.now) _ (λ was j e own run is few. (refl, disk_rises c.seek_frame.result c.in-Err.field-0 _ _ c.in-Err.is c.seek_frame.ensures.cause c.seek_frame.ensures.faults))

pub returns-in-Ok-packet-clause-released : goal.returns-in-Ok-packet-clause-released
returns-in-Ok-packet-clause-released g c =
    let k = kept_of c.args.store.now.journal in
    let p = c.args.parcel in
    some_with (g.D.Disk.seen c.args.disk.now) _ _ (rw c.in-Ok.is at c.seek_frame.ensures.frame)
    (λ was sought j e own run is few.
    let who : Sender = record { key = c.args.press.now.key; own = p.own } in
    let cut = whole_content k (g.D.Disk.may_leave c.args.disk.now) was j (ticket_view p.ticket) e _ _ _ _ c.min-len.result run own is few (sought j) c.frame-frame.ensures refl c.are_bytes.ensures c.min-len.ensures in
    let made = c.bytes.ensures ∙ ap (λ (x : PressData). x.bytes) c.make.ensures.value ∙ ap (λ (x : PacketData). packet_as p.kind x) (same_packet who j (ticket_view p.ticket) e _ is cut) in
    c.in-Ok-packet.ensures.added ∙ ap (λ (x : List ℕ). g.O.Outlet.adding (packet p.peer x) (g.O.Outlet.held c.args.outlet.now)) made)

pub returns-in-Err-packet-clause-released : goal.returns-in-Err-packet-clause-released
returns-in-Err-packet-clause-released g c =
    let k = kept_of c.args.store.now.journal in
    let p = c.args.parcel in
    some_with (g.D.Disk.seen c.args.disk.now) _ _ (rw c.in-Ok.is at c.seek_frame.ensures.frame)
    (λ was sought j e own run is few.
    let who : Sender = record { key = c.args.press.now.key; own = p.own } in
    let cut = whole_content k (g.D.Disk.may_leave c.args.disk.now) was j (ticket_view p.ticket) e _ _ _ _ c.min-len.result run own is few (sought j) c.frame-frame.ensures refl c.are_bytes.ensures c.min-len.ensures in
    let made = c.bytes.ensures ∙ ap (λ (x : PressData). x.bytes) c.make.ensures.value ∙ ap (λ (x : PacketData). packet_as p.kind x) (same_packet who j (ticket_view p.ticket) e _ is cut) in
    (cuts_one g.O.Outlet.adding g.O.Outlet.tearing (packet p.peer c.bytes.result.now) _ _ _ (ap (λ (x : List ℕ). packet p.peer x ∷ []) (sym made)) c.in-Err-packet.ensures.failed, c.in-Err-packet.ensures.faults))
