use Rattle.world_start.proofs.Starts.{ready_with}
use Rattle.world_start.proofs.stores.boot_of.Goals as goal

pub boot_machine-requires : goal.boot_machine-requires
boot_machine-requires c = record { ready = ready_with c.args.own c.args.keys.now c.in_ok-peers.peers.items c.requires.few c.requires.own c.requires.keys c.in_ok-peers.ensures }
