use Rattle.std.proofs.Common.{◌≡◌, ◌∙◌, ◌++◌, List, length, take, drop, sym, ap, subst, rules}
use Rattle.std.proofs.lemmas.List.{take_at}
use Rattle.avm_model.specs.Device.{with_row}
use Rattle.avm_model.specs.DeviceBounds.{IsPeered}
use Rattle.avm_model.specs.Input.{acknowledges}
use Rattle.avm_model.specs.declared.Peer.{Peer}
use Rattle.avm_model.proofs.PeerLaws.{peered_acks}
use Rattle.guest_dev.proofs.devices.Devices.count_ack.Goals as goal

pub invariant_of-self : goal.invariant_of-self
invariant_of-self c =
    let h = c.self.invariant in
    let d = c.self.inside in
    let back : take d.peers.len (c.count_acked.new.peers ++ drop (length c.count_acked.new.peers) d.peers.items) ≡ c.count_acked.new.peers =
    take_at c.count_acked.new.peers _ d.peers.len (search rules) in
    let kept = peered_acks d.own d.peers.items d.messages c.args.peer h.peered in
    record {
      line = h.line;
      capacity = h.capacity;
      console = h.console;
      messages = h.messages;
      result = h.result;
      peered = subst (λ (ps : List Peer). IsPeered d.own ps d.messages) (sym (back ∙ c.count_acked.ensures.value ∙ ap (λ (ps : List Peer). with_row ps c.args.peer acknowledges) c.as_mut_slice.ensures.value)) kept;
      bell = h.bell;
      asked = h.asked;
    }
