use Rattle.std.proofs.Common.{◌≡◌, ◌≤◌, ◌<◌, map, inl, inr, ap, true, false, refl, arith, rules}
use Rattle.avm_model.specs.Machine.{State, Stepped, Step, can_step}
use Rattle.avm_plain.specs.Step.{output_of}
use Rattle.avm_plain.specs.Replay.{given_of, entry_of, stamped}
use Rattle.avm_plain.proofs.Running.{ends, advances_by_step}
use Rattle.avm_plain.proofs.replaying.advance_step.Goals as goal
use Rattle.avm_plain.proofs.replaying.advance_step.Goals.{then-state-end-via-then-state-end, then-state-end-via-else-state-end+then-not-can_step}

pub returns-then-state-end : goal.returns-then-state-end
returns-then-state-end c =
    let count : c.state.inside.count ≡ c.args.state.now.count = ap (λ (s : State). s.count) c.state.view_is in
    elim c.then-state-end.branch [
      | then-state-end-via-then-state-end w ↦
          let past : c.args.end ≤ c.args.state.now.count = omega arith in
          ends c.args.state.now (map given_of c.args.inputs.now) c.args.end c.requires (inl past)
      | then-state-end-via-else-state-end+then-not-can_step w ↦
          let stays : can_step c.args.state.now ≡ false = search rules in
          ends c.args.state.now (map given_of c.args.inputs.now) c.args.end c.requires (inr stays)
    ]

pub returns : goal.returns
returns c =
    let count : c.state.inside.count ≡ c.args.state.now.count = ap (λ (s : State). s.count) c.state.view_is in
    let low : c.args.state.now.count < c.args.end = omega arith in
    let can : can_step c.args.state.now ≡ true = search rules in
    let state : c.in_ok-next.field-0.state ≡ (Step c.args.state.now).state = ap (λ (r : Stepped). r.state) c.in_ok-next.ensures in
    let outs : map output_of c.in_ok-next.field-0.outs.items ≡ (Step c.args.state.now).outs = ap (λ (r : Stepped). r.outs) c.in_ok-next.ensures in
    let after : c.next.inside.count ≡ c.in_ok-next.field-0.state.count = ap (λ (s : State). s.count) c.next.view_is in
    let entries : map entry_of c.in_ok-entries.entries.items ≡ stamped c.in_ok-next.field-0.state.count (Step c.args.state.now).outs =
    rw (← after, ← outs) c.in_ok-entries.ensures in
    advances_by_step c.args.state.now (map given_of c.args.inputs.now) c.args.end
    (record { entries = c.in_ok-entries.entries; state = c.in_ok-next.field-0.state; took = 0 }) c.requires low can state entries refl
