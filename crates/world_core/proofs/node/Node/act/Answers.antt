use Rattle.std.proofs.Common.{Some, refl}
use Rattle.world_core.proofs.Steps.{did_up}
use Rattle.world_model.specs.EventView.{deed_view}
use Rattle.world_parts.specs.OneOutlet.{one_packets}
use Rattle.world_core.proofs.node.Node.act.Goals as goal

pub returns-in-Some-clause-did : goal.returns-in-Some-clause-did
returns-in-Some-clause-did c =
    did_up c.args.self.now.recorder c.in-Some.recorder c.act_on.new.recorder c.args.self.now
    (record { disk = c.act_on.new.disk; recorder = Some c.act_on.new.recorder; own = c.args.self.now.own; key = c.args.self.now.key; peers = c.args.self.now.peers })
    (deed_view c.args.act) c.args.packet.now c.args.number (one_packets c.args.outlet.now) (one_packets c.act_on.new.outlet) c.act_on.result c.in-Some.is refl c.act_on.ensures.act
