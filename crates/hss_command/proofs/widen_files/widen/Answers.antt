use Rattle.hss_command.proofs.Counts.{only_four, not_four}
use Rattle.hss_command.proofs.Widening.{widen_reached, widen_counted, widen_means}
use Rattle.hss_command.proofs.widen_files.widen.Goals as goal

pub returns-clause-ends : goal.returns-clause-ends
returns-clause-ends g c =
    let e = c.widened-ended.ensures in
    let o = c.finish.ensures in
    (o.0, widen_reached c.args.endorse.now c.args.auths.now c.args.into.now (g.F.Files.file c.args.files.now) (g.F.Files.file c.widened-ended.new.files) (g.F.Files.faults c.args.files.now) (g.F.Files.faults c.widened-ended.new.files) c.widened-ended.result e.ends e.left e.no_memory e.fault e.no_fault o.0 o.1 e.causes, o.2)

pub returns-clause-means : goal.returns-clause-means
returns-clause-means g c =
    let e = c.widened-ended.ensures in
    let o = c.finish.ensures in
    widen_means c.args.endorse.now c.args.auths.now c.args.into.now _ _ _ _ _ _ _ _ c.finish.result (o.0, widen_reached c.args.endorse.now c.args.auths.now c.args.into.now (g.F.Files.file c.args.files.now) (g.F.Files.file c.widened-ended.new.files) (g.F.Files.faults c.args.files.now) (g.F.Files.faults c.widened-ended.new.files) c.widened-ended.result e.ends e.left e.no_memory e.fault e.no_fault o.0 o.1 e.causes, o.2)

pub returns-clause-four : goal.returns-clause-four
returns-clause-four g c =
    let e = c.widened-ended.ensures in
    let o = c.finish.ensures in
    only_four o.0 _ _ _ _ _ _ c.finish.result (widen_counted c.args.endorse.now c.args.auths.now c.args.into.now (g.F.Files.file c.args.files.now) (g.F.Files.file c.widened-ended.new.files) (g.F.Files.faults c.args.files.now) (g.F.Files.faults c.widened-ended.new.files) o.0 (widen_reached c.args.endorse.now c.args.auths.now c.args.into.now (g.F.Files.file c.args.files.now) (g.F.Files.file c.widened-ended.new.files) (g.F.Files.faults c.args.files.now) (g.F.Files.faults c.widened-ended.new.files) c.widened-ended.result e.ends e.left e.no_memory e.fault e.no_fault o.0 o.1 e.causes)) o.2

pub returns-clause-not_four : goal.returns-clause-not_four
returns-clause-not_four g c =
    let e = c.widened-ended.ensures in
    let o = c.finish.ensures in
    not_four o.0 _ _ _ _ _ _ c.finish.result (widen_counted c.args.endorse.now c.args.auths.now c.args.into.now (g.F.Files.file c.args.files.now) (g.F.Files.file c.widened-ended.new.files) (g.F.Files.faults c.args.files.now) (g.F.Files.faults c.widened-ended.new.files) o.0 (widen_reached c.args.endorse.now c.args.auths.now c.args.into.now (g.F.Files.file c.args.files.now) (g.F.Files.file c.widened-ended.new.files) (g.F.Files.faults c.args.files.now) (g.F.Files.faults c.widened-ended.new.files) c.widened-ended.result e.ends e.left e.no_memory e.fault e.no_fault o.0 o.1 e.causes)) o.2
