use Rattle.avm_model.specs.Machine.{out_send}
use Rattle.guest_machine.specs.Outs.{halt_list, line_list, snap_list}
use Rattle.record_machine.proofs.Used.{made_four}
use Rattle.record_machine.proofs.putting.put_outs.Goals as goal

pub returns-clause-value : goal.returns-clause-value
returns-clause-value c =
    let last = c.put_due.ensures.value in
    let o = c.args.outs.now in
    let s = c.args.machine.now.state in
    (last.0, last.1, last.2, made_four c.args.batch.now c.put_line.new.batch c.put_sent.new.batch c.put_halt.new.batch c.put_due.new.batch s last.0 (line_list o.line) (out_send o.sent s.devices.window) (halt_list o.halt) (snap_list o.snap) (c.put_line.ensures.value last.0) (c.put_sent.ensures.value last.0) (c.put_halt.ensures.value last.0) last.3)
