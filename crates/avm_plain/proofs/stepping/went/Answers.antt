use Rattle.std.proofs.Common.{◌≡◌, ◌≤◌, ◌∙◌, All, ap, subst, sym}
use Rattle.avm_model.specs.Machine.{Board, State}
use Rattle.avm_plain.proofs.stepping.went.Goals as goal

pub invariant_of-state : goal.invariant_of-state
invariant_of-state c =
    let low = subst (λ (s : State). All (λ p. p.sent ≤ s.count) s.devices.peers) c.state.view_is c.state.invariant.sent in
    let more = c.requires.counted.counted c.args.state.now.count low in
    let same : c.emptied.result.peers ≡ c.args.board.devices.peers = c.emptied.ensures.peers ∙ c.left-devices.ensures.peers ∙ ap (λ (b : Board). b.devices.peers) c.board.view_is in
    let count : c.args.state.now.count ≡ c.state.inside.count = sym (ap (λ (s : State). s.count) c.state.view_is) in
    record {
      distance = c.state.invariant.distance;
      sent = rw (same, ← count) more;
    }
