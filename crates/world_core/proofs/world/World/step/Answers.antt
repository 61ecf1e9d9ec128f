use Rattle.std.proofs.Common.{List, length, map, refl, ap, ◌∙◌}
use Rattle.world_core.proofs.Steps.{made_same, steps_made}
use Rattle.world_core.specs.Worlds.{nodes_of, parcel_of, pool_of, refusal_of}
use Rattle.world_core.specs.declared.pool.Packet.{Packet}
use Rattle.world_model.specs.EventView.{event_view}
use Rattle.world_core.proofs.world.World.step.Goals as goal

pub returns-clause-steps : goal.returns-clause-steps
returns-clause-steps c =
    let e = event_view c.args.event.now in
    steps_made (refusal_of (length (nodes_of c.args.self.now)) (length (pool_of c.args.self.now)) e) c.args.self.now c.make.new.self e c.make.result
    (λ x q. c.in_default.not-Some x (c.refusal.ensures ∙ q))
    (made_same c.args.self.now _ c.make.new.self e c.make.result refl (ap (λ (ps : List Packet). map parcel_of ps) c.reserve.ensures.items) refl c.make.ensures.made)
