use Rattle.std.proofs.Common.{◌≤◌, length, subst, sym}
use Rattle.avm_model.specs.DeviceBounds.{IsDevices}
use Rattle.guest_dev.specs.Shown.{DevicesState}
use Rattle.guest_dev.proofs.devices.Devices.bounds.Goals as goal

pub returns : goal.returns
returns c =
    let h = c.self.invariant in
    let line = subst (λ (d : DevicesState). length d.state.line ≤ 128) (sym c.self.view_is) c.line.ensures.bound in
    subst (λ (d : DevicesState). IsDevices d.state) c.self.view_is
    (record { peered = h.peered; line = line; console = h.console; messages = h.messages; result = h.result; bell = h.bell })
