-- What the rows of a network that agrees say.
use Rattle.std.proofs.Common.{◌≡◌, ℕ, ◌+◌, ◌≤◌, List, length, Some, ap, subst, ◌∙◌, sym, arith}
use Rattle.std.specs.Prelude.{slice_get}
use Rattle.std.proofs.lemmas.List.{length-append}
use Rattle.avm_model.specs.Device.{row_of}
use Rattle.avm_model.specs.declared.Peer.{Peer}
use Rattle.world_model.specs.World.{IsPrefix, Message, sent_to, received_from}
use Rattle.world_laws.specs.Network.{Station, Network, station_node, IsAgreeing, RowAgrees}
use Rattle.world_model.proofs.Mails.{sent-append}
use Rattle.world_laws.proofs.Networks.{stations_agree}

front_short : (a b : List Message) → IsPrefix a b → length a ≤ length b
front_short a b h =
    let e : length b ≡ length a + length h.0 = ap (λ (ms : List Message). length ms) h.1 ∙ length-append a h.0 in
    omega (arith, e)

pub rows_agree : (n : Network) (i j : ℕ) (a b : Station) (row : Peer) → IsAgreeing n → slice_get n.stations i ≡ Some a → slice_get n.stations j ≡ Some b → row_of a.recording.machine.devices.peers b.recording.machine.devices.own ≡ Some row → RowAgrees a b row
rows_agree n i j a b row h p q is =
    let k = stations_agree n i j a b h p q in
    let c = (h.sound i a p).counted in
    let received = c.received b.recording.machine.devices.own row is in
    let acked = c.acked b.recording.machine.devices.own row is in
    let short = front_short _ _ k.received in
    let arrived = k.acked in
    record {
      received = received;
      sent = c.sent b.recording.machine.devices.own row is;
      came = subst (λ (m : ℕ). m ≤ length (sent_to (station_node a).own (station_node b).saved)) (sym received) short;
      arrived = subst (λ (m : ℕ). m ≤ length (received_from (station_node a).own (station_node b).saved)) (sym acked) arrived;
    }

-- of two stations: one has received at most as many messages as the other's row counts as sent to it
pub received_sent : (n : Network) (i j : ℕ) (a b : Station) (row back : Peer) → IsAgreeing n → slice_get n.stations i ≡ Some a → slice_get n.stations j ≡ Some b → row_of a.recording.machine.devices.peers b.recording.machine.devices.own ≡ Some row → row_of b.recording.machine.devices.peers a.recording.machine.devices.own ≡ Some back → row.received ≤ back.sent
received_sent n i j a b row back h p q is other =
    let k = rows_agree n i j a b row h p q is in
    let came = k.came in
    let sent = (h.sound j b q).counted.sent a.recording.machine.devices.own back other in
    let split = ap (λ (ms : List Message). length ms) (sent-append a.recording.machine.devices.own (station_node b).saved (station_node b).unsaved) ∙ length-append (sent_to (station_node a).own (station_node b).saved) (sent_to (station_node a).own (station_node b).unsaved) in
    omega (arith, came, sent, split)
