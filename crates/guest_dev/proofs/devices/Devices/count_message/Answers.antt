use Rattle.std.proofs.Common.{◌≡◌, ◌∙◌, ◌++◌, ◌<◌, ◌-◌, ◌^◌, List, length, take, drop, sym, ap, subst, rules, IfSome}
use Rattle.std.proofs.lemmas.List.{take_at}
use Rattle.avm_model.specs.Device.{row_of, with_row}
use Rattle.avm_model.specs.DeviceBounds.{IsPeered}
use Rattle.avm_model.specs.Input.{receives_one}
use Rattle.avm_model.specs.declared.Peer.{Peer}
use Rattle.avm_model.proofs.PeerLaws.{peered_receives}
use Rattle.guest_dev.specs.Shown.{DevicesState}
use Rattle.guest_dev.proofs.devices.Devices.count_message.Goals as goal

pub invariant_of-self : goal.invariant_of-self
invariant_of-self c =
    let h = c.self.invariant in
    let d = c.self.inside in
    let back : take d.peers.len (c.count_received.new.peers ++ drop (length c.count_received.new.peers) d.peers.items) ≡ c.count_received.new.peers =
    take_at c.count_received.new.peers _ d.peers.len (search rules) in
    let low = subst (λ (s : DevicesState). IfSome (row_of s.state.peers c.args.peer) (λ p. p.received < 2 ^ 62 - 1)) (sym c.self.view_is) c.requires in
    let kept = peered_receives d.own d.peers.items d.messages c.args.peer (λ p e. rw e at low) h.peered in
    record {
      line = h.line;
      capacity = h.capacity;
      console = h.console;
      messages = h.messages;
      result = h.result;
      peered = subst (λ (ps : List Peer). IsPeered d.own ps d.messages) (sym (back ∙ c.count_received.ensures.value ∙ ap (λ (ps : List Peer). with_row ps c.args.peer receives_one) c.as_mut_slice.ensures.value)) kept;
      bell = h.bell;
      asked = h.asked;
    }
