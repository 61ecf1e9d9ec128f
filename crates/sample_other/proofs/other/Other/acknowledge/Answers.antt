use Rattle.std.proofs.Common.{◌<◌, ◌≤◌, ℕ, List, length, sym, ap, subst, ◌∙◌}
use Rattle.sample_model.specs.Other.{Side}
use Rattle.sample_parts.specs.Peers.{PeerData}
use Rattle.sample_other.specs.Saying.{IsWithin}
use Rattle.sample_other.proofs.Packets.{ack_is}
use Rattle.sample_other.proofs.Within.{leaf_left, received_within}
use Rattle.sample_other.proofs.other.Other.acknowledge.Goals as goal

pub answer-requires-clause-leaf : goal.answer-requires-clause-leaf
answer-requires-clause-leaf c =
    let w = subst (λ (b : Side). IsWithin 1 b) (sym c.self.view_is) c.requires.within in
    leaf_left _ w

pub push_packet-requires-clause-some : goal.push_packet-requires-clause-some
push_packet-requires-clause-some c =
    let w = subst (λ (b : Side). IsWithin 1 b) (sym c.self.view_is) c.requires.within in
    let is = c.packet.ensures ∙ ap (λ (p : PeerData). p.packet) c.answer.ensures in
    subst (λ (bytes : List ℕ). 0 < length bytes) (sym is) (ack_is _ c.args.answer.now w c.requires.few).some

pub push_packet-requires-clause-few : goal.push_packet-requires-clause-few
push_packet-requires-clause-few c =
    let w = subst (λ (b : Side). IsWithin 1 b) (sym c.self.view_is) c.requires.within in
    let is = c.packet.ensures ∙ ap (λ (p : PeerData). p.packet) c.answer.ensures in
    subst (λ (bytes : List ℕ). length bytes ≤ 20000) (sym is) (ack_is _ c.args.answer.now w c.requires.few).few

pub returns-clause-within : goal.returns-clause-within
returns-clause-within c =
    let w = subst (λ (b : Side). IsWithin 1 b) (sym c.self.view_is) c.requires.within in
    let more = subst (λ (b : Side). b.answers < 150) (sym c.self.view_is) c.requires.more in
    received_within _ c.answer.new.self.log c.self.inside.words c.args.answer.now (ap (λ (p : PeerData). p.log) c.answer.ensures) more w
