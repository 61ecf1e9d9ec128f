use Rattle.std.proofs.Common.{arith, refl, ◌-◌, ◌^◌}
use Rattle.snap_state.specs.Views.{head_view}
use Rattle.avm_model.proofs.HeadBounds.{bounded, past_more}
use Rattle.snap_state.proofs.machine.devices_of.Goals as goal

pub empty_devices-requires-clause-self_id : goal.empty_devices-requires-clause-self_id
empty_devices-requires-clause-self_id c = (bounded (head_view c.args.parts.now) c.requires.bounds).own

pub empty_devices-requires-clause-rows : goal.empty_devices-requires-clause-rows
empty_devices-requires-clause-rows c = rw (c.in-Ok.ensures, c.again.ensures) (bounded (head_view c.args.parts.now) c.requires.bounds).rows

pub empty_devices-requires-clause-sent : goal.empty_devices-requires-clause-sent
empty_devices-requires-clause-sent c =
    let b = bounded (head_view c.args.parts.now) c.requires.bounds in
    let low = b.count in
    rw (c.in-Ok.ensures, c.again.ensures) (past_more c.args.parts.now.hart.count (2 ^ 62 - 1) c.args.parts.now.front.peers (omega (arith, low)) b.sent)

pub empty_devices-requires-clause-bell : goal.empty_devices-requires-clause-bell
empty_devices-requires-clause-bell c = (bounded (head_view c.args.parts.now) c.requires.bounds).bell

pub set_line-requires : goal.set_line-requires
set_line-requires c = let line = (bounded (head_view c.args.parts.now) c.requires.bounds).line in omega (arith, line)

pub take_bytes-requires : goal.take_bytes-requires
take_bytes-requires c = let few = (bounded (head_view c.args.parts.now) c.requires.bounds).console in rw (c.set_line.ensures, c.in_ok-devices.ensures) (omega (arith, few))

pub queue_all-requires-clause-known : goal.queue_all-requires-clause-known
queue_all-requires-clause-known c = rw (c.take_bytes.ensures, c.set_line.ensures, c.in_ok-devices.ensures, c.again-2.ensures, c.in-Ok.ensures, c.again.ensures) (bounded (head_view c.args.parts.now) c.requires.bounds).known

pub queue_all-requires-clause-few : goal.queue_all-requires-clause-few
queue_all-requires-clause-few c = let few = (bounded (head_view c.args.parts.now) c.requires.bounds).messages in rw (c.take_bytes.ensures, c.set_line.ensures, c.in_ok-devices.ensures, c.again-2.ensures) (omega (arith, few))

pub set_regs-requires : goal.set_regs-requires
set_regs-requires c = (bounded (head_view c.args.parts.now) c.requires.bounds).result

pub returns : goal.returns
returns c = rw (c.set_window.ensures, c.set_regs.ensures, c.queue_all.ensures, c.take_bytes.ensures, c.set_line.ensures, c.in_ok-devices.ensures, c.again-2.ensures, c.in-Ok.ensures, c.again.ensures) refl
