use Rattle.std.proofs.Common.{◌<◌, ◌≤◌, ℕ, List, length, sym, ap, subst, ◌∙◌}
use Rattle.sample_model.specs.Other.{Side}
use Rattle.sample_parts.specs.Peers.{PeerData}
use Rattle.sample_other.specs.Saying.{IsWithin}
use Rattle.sample_other.proofs.Packets.{data_is}
use Rattle.sample_other.proofs.Within.{fewer, leaf_left, on_ok, sent_within}
use Rattle.sample_other.proofs.other.Other.send.Goals as goal

pub send-requires-clause-leaf : goal.send-requires-clause-leaf
send-requires-clause-leaf c =
    let w = subst (λ (b : Side). IsWithin 2 b) (sym c.self.view_is) c.requires in
    leaf_left _ (fewer _ w)

pub push_packet-requires-clause-some : goal.push_packet-requires-clause-some
push_packet-requires-clause-some c =
    let w = subst (λ (b : Side). IsWithin 2 b) (sym c.self.view_is) c.requires in
    let few : length c.deref.result.now ≤ 1024 = subst (λ (bytes : List ℕ). length bytes ≤ 1024) (sym c.deref.ensures.value) c.in-Ok.ensures.few in
    let is = c.packet.ensures ∙ ap (λ (p : PeerData). p.packet) c.send.ensures in
    subst (λ (bytes : List ℕ). 0 < length bytes) (sym is) (data_is _ c.args.number c.deref.result.now (fewer _ w) few).some

pub push_packet-requires-clause-few : goal.push_packet-requires-clause-few
push_packet-requires-clause-few c =
    let w = subst (λ (b : Side). IsWithin 2 b) (sym c.self.view_is) c.requires in
    let few : length c.deref.result.now ≤ 1024 = subst (λ (bytes : List ℕ). length bytes ≤ 1024) (sym c.deref.ensures.value) c.in-Ok.ensures.few in
    let is = c.packet.ensures ∙ ap (λ (p : PeerData). p.packet) c.send.ensures in
    subst (λ (bytes : List ℕ). length bytes ≤ 20000) (sym is) (data_is _ c.args.number c.deref.result.now (fewer _ w) few).few

pub returns-clause-within : goal.returns-clause-within
returns-clause-within c =
    let w = subst (λ (b : Side). IsWithin 2 b) (sym c.self.view_is) c.requires in
    on_ok c.push_packet.result (sent_within _ c.send.new.self.log c.draw_message.new.rng c.args.number c.deref.result.now (ap (λ (p : PeerData). p.log) c.send.ensures) w)
