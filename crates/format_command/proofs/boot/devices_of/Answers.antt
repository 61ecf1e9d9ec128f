use Rattle.std.proofs.Common.{◌-◌, ◌^◌}
use Rattle.format_command.proofs.Bootings.{past_more}
use Rattle.format_command.proofs.boot.devices_of.Goals as goal

pub with_bell-requires-clause-sent : goal.with_bell-requires-clause-sent
with_bell-requires-clause-sent c = past_more (2 ^ 62 - 1) c.args.config.peers.items c.requires.ready.unsent

pub new-requires-clause-sent : goal.new-requires-clause-sent
new-requires-clause-sent c = past_more (2 ^ 62 - 1) c.args.config.peers.items c.requires.ready.unsent
