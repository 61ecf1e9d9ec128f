use Rattle.hss_command.proofs.Counts.{only_four, not_four}
use Rattle.hss_command.proofs.Narrowing.{narrow_reached, narrow_counted, narrow_means}
use Rattle.hss_command.proofs.narrow_files.narrow.Goals as goal

pub returns-clause-ends : goal.returns-clause-ends
returns-clause-ends g c =
    let e = c.narrowed-ended.ensures in
    let o = c.finish.ensures in
    (o.0, narrow_reached c.args.key.now c.args.auths.now c.args.public.now c.args.into.now (g.F.Files.file c.args.files.now) (g.F.Files.file c.narrowed-ended.new.files) (g.F.Files.faults c.args.files.now) (g.F.Files.faults c.narrowed-ended.new.files) c.narrowed-ended.result e.ends e.left e.no_memory e.fault e.no_fault o.0 o.1 e.causes, o.2)

pub returns-clause-means : goal.returns-clause-means
returns-clause-means g c =
    let e = c.narrowed-ended.ensures in
    let o = c.finish.ensures in
    narrow_means c.args.key.now c.args.auths.now c.args.public.now c.args.into.now _ _ _ _ _ _ _ _ c.finish.result (o.0, narrow_reached c.args.key.now c.args.auths.now c.args.public.now c.args.into.now (g.F.Files.file c.args.files.now) (g.F.Files.file c.narrowed-ended.new.files) (g.F.Files.faults c.args.files.now) (g.F.Files.faults c.narrowed-ended.new.files) c.narrowed-ended.result e.ends e.left e.no_memory e.fault e.no_fault o.0 o.1 e.causes, o.2)

pub returns-clause-four : goal.returns-clause-four
returns-clause-four g c =
    let e = c.narrowed-ended.ensures in
    let o = c.finish.ensures in
    only_four o.0 _ _ _ _ _ _ c.finish.result (narrow_counted c.args.key.now c.args.auths.now c.args.public.now c.args.into.now (g.F.Files.file c.args.files.now) (g.F.Files.file c.narrowed-ended.new.files) (g.F.Files.faults c.args.files.now) (g.F.Files.faults c.narrowed-ended.new.files) o.0 (narrow_reached c.args.key.now c.args.auths.now c.args.public.now c.args.into.now (g.F.Files.file c.args.files.now) (g.F.Files.file c.narrowed-ended.new.files) (g.F.Files.faults c.args.files.now) (g.F.Files.faults c.narrowed-ended.new.files) c.narrowed-ended.result e.ends e.left e.no_memory e.fault e.no_fault o.0 o.1 e.causes)) o.2

pub returns-clause-not_four : goal.returns-clause-not_four
returns-clause-not_four g c =
    let e = c.narrowed-ended.ensures in
    let o = c.finish.ensures in
    not_four o.0 _ _ _ _ _ _ c.finish.result (narrow_counted c.args.key.now c.args.auths.now c.args.public.now c.args.into.now (g.F.Files.file c.args.files.now) (g.F.Files.file c.narrowed-ended.new.files) (g.F.Files.faults c.args.files.now) (g.F.Files.faults c.narrowed-ended.new.files) o.0 (narrow_reached c.args.key.now c.args.auths.now c.args.public.now c.args.into.now (g.F.Files.file c.args.files.now) (g.F.Files.file c.narrowed-ended.new.files) (g.F.Files.faults c.args.files.now) (g.F.Files.faults c.narrowed-ended.new.files) c.narrowed-ended.result e.ends e.left e.no_memory e.fault e.no_fault o.0 o.1 e.causes)) o.2
