use Rattle.std.proofs.Common.{List, length, map, true, false, refl, sym, ap, ◌∙◌}
use Rattle.std.proofs.lemmas.List.{append-nil}
use Rattle.world_core.proofs.Steps.{node_at, node_in, one_at_most, set_runs, steps_as}
use Rattle.world_core.specs.Worlds.{bytes_at, delivered_by, nodes_of, parcel_of, pool_of}
use Rattle.world_core.specs.declared.pool.Packet.{Packet}
use Rattle.world_model.specs.EventView.{deed_view, event_view}
use Rattle.world_parts.specs.OneOutlet.{one_packets}
use Rattle.world_core.proofs.world.World.make.Goals as goal

pub returns-then-kept-clause-made : goal.returns-then-kept-clause-made
returns-then-kept-clause-made c =
    let n = c.index_mut-node.result.now in
    record {
      node = n;
      there = node_at c.args.self.now.nodes.items c.args.event.now.node n (node_in (length (nodes_of c.args.self.now)) (length (pool_of c.args.self.now)) (event_view c.args.event.now) c.requires.there) c.index_mut-node.ensures.value;
      last = c.step-result.new.self;
      packets = one_packets c.step-result.new.outlet;
      few = one_at_most c.step-result.new.outlet.peer c.step-result.new.outlet.bytes.bytes;
      kept = true;
      steps = steps_as n c.step-result.new.self (event_view c.args.event.now) c.delivered-packet.result.now (bytes_at (pool_of c.args.self.now) (delivered_by (deed_view c.args.event.now.act))) c.saturating_add-self.result (one_packets c.args.outlet) (one_packets c.step-result.new.outlet) c.step-result.result.1 true c.step-result.result.0
          (c.delivered-packet.ensures.bytes ∙ ap (λ (ps : List Packet). bytes_at (map parcel_of ps) (delivered_by (deed_view c.args.event.now.act))) c.deref.ensures.value) c.requires.empty c.if-kept.true c.step-result.ensures.steps;
      nodes = refl;
      pool = c.release.ensures.pool;
      events = c.saturating_add-self.ensures;
    }

pub returns-then-kept-clause-world : goal.returns-then-kept-clause-world
returns-then-kept-clause-world c = set_runs c.args.self.now.nodes.items c.args.event.now.node c.step-result.new.self c.requires.world c.step-result.ensures.runs

pub returns-else-kept-clause-made : goal.returns-else-kept-clause-made
returns-else-kept-clause-made c =
    let n = c.index_mut-node.result.now in
    record {
      node = n;
      there = node_at c.args.self.now.nodes.items c.args.event.now.node n (node_in (length (nodes_of c.args.self.now)) (length (pool_of c.args.self.now)) (event_view c.args.event.now) c.requires.there) c.index_mut-node.ensures.value;
      last = c.step-result.new.self;
      packets = one_packets c.step-result.new.outlet;
      few = one_at_most c.step-result.new.outlet.peer c.step-result.new.outlet.bytes.bytes;
      kept = false;
      steps = steps_as n c.step-result.new.self (event_view c.args.event.now) c.delivered-packet.result.now (bytes_at (pool_of c.args.self.now) (delivered_by (deed_view c.args.event.now.act))) c.saturating_add-self.result (one_packets c.args.outlet) (one_packets c.step-result.new.outlet) c.step-result.result.1 false c.step-result.result.0
          (c.delivered-packet.ensures.bytes ∙ ap (λ (ps : List Packet). bytes_at (map parcel_of ps) (delivered_by (deed_view c.args.event.now.act))) c.deref.ensures.value) c.requires.empty c.if-kept.false c.step-result.ensures.steps;
      nodes = refl;
      pool = sym (append-nil (pool_of c.args.self.now));
      events = c.saturating_add-self.ensures;
    }

pub returns-else-kept-clause-world : goal.returns-else-kept-clause-world
returns-else-kept-clause-world c = set_runs c.args.self.now.nodes.items c.args.event.now.node c.step-result.new.self c.requires.world c.step-result.ensures.runs
