use Rattle.std.proofs.Common.{◌<◌, length, sym, subst, arith, rules}
use Rattle.std.proofs.Common.{◌∷◌, [], ◌≤◌, List}
use Rattle.std.proofs.lemmas.List.{length-append}
use Rattle.avm_model.specs.Device.{MessageState}
use Rattle.avm_model.specs.DeviceBounds.{IsPeered}
use Rattle.avm_model.proofs.PeerLaws.{peered_takes}
use Rattle.guest_dev.proofs.devices.Devices.take_message.Goals as goal

pub invariant_of-self : goal.invariant_of-self
invariant_of-self c =
    let h = c.self.invariant in
    let after = c.push.ensures in
    let m : MessageState = record { peer = c.args.peer; payload = c.args.payload.now } in
    let low : length c.self.inside.messages < 8 = search rules in
    record {
      line = h.line;
      capacity = h.capacity;
      console = h.console;
      messages = subst (λ (ms : List MessageState). length ms ≤ 8) (sym after) (omega (arith, low, length-append c.self.inside.messages (m ∷ [])));
      result = h.result;
      peered = subst (λ (ms : List MessageState). IsPeered c.self.inside.own c.self.inside.peers.items ms) (sym after) (peered_takes c.self.inside.own c.self.inside.peers.items c.self.inside.messages m c.requires.short (search rules) h.peered);
      bell = h.bell;
      asked = h.asked;
    }
