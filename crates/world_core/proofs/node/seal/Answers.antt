use Rattle.std.proofs.Common.{ap}
use Rattle.avm_outside.specs.MemDisks.{disk_faults}
use Rattle.world_core.proofs.Turning.{seal_runs}
use Rattle.world_parts.specs.OneOutlet.{one_packets, outlet_faults}
use Rattle.world_core.proofs.node.seal.Goals as goal

pub returns-clause-seal : goal.returns-clause-seal
returns-clause-seal c = record {
  seals = λ runs j own. record {
    faults = record { disk_before = disk_faults c.args.disk.now; disk_after = disk_faults c.seal.new.disk; outlet_before = outlet_faults c.args.outlet.now; outlet_after = outlet_faults c.seal.new.outlet };
    leaves = c.seal.ensures.seals runs j own.own;
  };
  ended = λ stop was. let t = c.seal.ensures.ended stop was in (t.0, record { same = t.1; disk = t.2; none = ap one_packets t.3 });
  stop = c.seal.ensures.stop;
  key = c.seal.ensures.key;
  machine = c.seal.ensures.machine;
  rows = c.seal.ensures.kept;
  run = c.seal.ensures.run;
}

pub returns-clause-runs : goal.returns-clause-runs
returns-clause-runs c =
    seal_runs c.args.disk.now c.seal.new.disk c.args.recorder.now c.seal.new.self (one_packets c.args.outlet.now) (one_packets c.seal.new.outlet) c.seal.result c.requires.runs (returns-clause-seal c)
