use Rattle.std.proofs.Common.{ap}
use Rattle.avm_script.specs.ConfigView.{config_view}
use Rattle.format_command.proofs.Bootings.{boots_within}
use Rattle.format_command.proofs.boot.boot_machine.Goals as goal

pub new-machine-requires-clause-bounds : goal.new-machine-requires-clause-bounds
new-machine-requires-clause-bounds c =
    boots_within (config_view c.args.config) c.in_ok-devices.devices.state c.build.new.ram.bytes c.build.new.ram.dirty _ c.in-Ok.entry c.args.image.now c.requires.ready (ap (λ d. d.state) c.in_ok-devices.ensures) c.bytes-bytes.ensures.sizes c.in-Ok.ensures.fault c.in-Ok.ensures.entry
