use Rattle.std.proofs.Common.{◌≡◌, ◌∙◌, ◌++◌, ◌<◌, ◌-◌, ◌^◌, List, All, length, take, drop, sym, ap, subst, rules}
use Rattle.std.proofs.lemmas.List.{take_at}
use Rattle.avm_model.specs.Device.{row_of, with_row, send_result, sends_one}
use Rattle.avm_model.specs.DeviceBounds.{IsPeered}
use Rattle.avm_model.specs.declared.Peer.{Peer}
use Rattle.avm_model.proofs.PeerLaws.{peered_sends, all_row}
use Rattle.guest_dev.specs.Shown.{DevicesState}
use Rattle.guest_dev.proofs.devices.Devices.send.Goals as goal

pub invariant_of-self-2 : goal.invariant_of-self-2
invariant_of-self-2 c =
    let h = c.self.invariant in
    let d = c.self.inside in
    let back : take d.peers.len (c.count_sent.new.peers ++ drop (length c.count_sent.new.peers) d.peers.items) ≡ c.count_sent.new.peers =
    take_at c.count_sent.new.peers _ d.peers.len (search rules) in
    let low = subst (λ (s : DevicesState). All (λ p. p.sent < 2 ^ 62 - 1) s.state.peers) (sym c.self.view_is) c.requires in
    let can : send_result d.tx_len (row_of d.peers.items d.tx_peer) ≡ 0 = search rules in
    let kept = peered_sends d.own d.peers.items d.messages d.tx_peer d.tx_len can (λ p e. all_row (λ p. p.sent < 2 ^ 62 - 1) d.peers.items d.tx_peer p low e) h.peered in
    record {
      line = h.line;
      capacity = h.capacity;
      console = h.console;
      messages = h.messages;
      result = c.send_result-result.ensures.bound;
      peered = subst (λ (ps : List Peer). IsPeered d.own ps d.messages) (sym (back ∙ c.count_sent.ensures.value ∙ ap (λ (ps : List Peer). with_row ps d.tx_peer sends_one) c.as_mut_slice.ensures.value)) kept;
      bell = h.bell;
      asked = h.asked;
    }
