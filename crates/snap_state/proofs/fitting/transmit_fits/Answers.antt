use Rattle.snap_state.proofs.fitting.transmit_fits.Goals as goal

pub returns : goal.returns
returns c =
    let r = c.regs_fit.ensures in
    let d = c.devices-devices.ensures in
    let peer = rw d at r.peer in
    let len = rw d at r.len in
    let result = rw d at r.result in
    let window = rw d at c.window_fits.ensures in
    record { peer = peer; len = len; result = result; window = window }
