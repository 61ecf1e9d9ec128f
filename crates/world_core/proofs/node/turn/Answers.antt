use Rattle.std.proofs.Common.{ap}
use Rattle.avm_outside.specs.MemDisks.{disk_faults}
use Rattle.world_core.proofs.Turning.{turn_of_call, turn_runs}
use Rattle.world_parts.specs.OneOutlet.{one_packets, outlet_faults}
use Rattle.world_core.proofs.node.turn.Goals as goal

pub returns-clause-turn : goal.returns-clause-turn
returns-clause-turn c =
    turn_of_call c.args.disk.now c.turn.new.disk c.args.recorder.now c.turn.new.self c.args.feed.now c.turn.new.feed (one_packets c.args.outlet.now) (one_packets c.turn.new.outlet) c.turn.result
    (record { disk_before = disk_faults c.args.disk.now; disk_after = disk_faults c.turn.new.disk; outlet_before = outlet_faults c.args.outlet.now; outlet_after = outlet_faults c.turn.new.outlet })
    c.turn.ensures.turns c.turn.ensures.feed_faults
    (λ stop was. let t = c.turn.ensures.ended stop was in (t.0, record { same = t.1; disk = t.2; none = ap one_packets t.4 }))
    c.turn.ensures.stop c.turn.ensures.key c.turn.ensures.run

pub returns-clause-runs : goal.returns-clause-runs
returns-clause-runs c =
    turn_runs c.args.disk.now c.turn.new.disk c.args.recorder.now c.turn.new.self c.args.feed.now (one_packets c.args.outlet.now) (one_packets c.turn.new.outlet) c.turn.result c.requires.runs (returns-clause-turn c)
