use Rattle.std.proofs.Common.{arith, ◌∙◌, ◌+◌, ap, drop}
use Rattle.avm_num.specs.Room.{Buffer, with_bytes}
use Rattle.snap_state.proofs.Puts.{byte_put}
use Rattle.snap_state.proofs.queues.put_console.Goals as goal

pub loop-i-preserved : goal.loop-i-preserved
loop-i-preserved c =
    let i = c.loop-i.invariant in
    let v = c.put_u8.ensures.value in
    let l = c.put_u8.ensures.left in
    record {
      value = ap (λ (b : Buffer). with_bytes b (drop (c.loop-i.i + 1) c.args.devices.now.state.console)) v ∙ byte_put c.loop-i.out c.args.devices.now.state.console c.loop-i.i c.console_at.result c.console_at.ensures ∙ i.value;
      left = omega (arith, l);
    }
