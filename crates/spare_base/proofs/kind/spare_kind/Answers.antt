use Rattle.std.proofs.Common.{take, drop}
use Rattle.base_model.specs.Spare.{IsKind, Active}
use Rattle.spare_base.proofs.SpareKinds.{kind_active, still_only, with_images}
use Rattle.spare_base.proofs.kind.spare_kind.Goals as goal

pub returns-then-branch-clause-kind : goal.returns-then-branch-clause-kind
returns-then-branch-clause-kind g c =
    let told = g.E.Disk.seen c.args.spare.now in
    with_images told (g.E.Disk.may_leave c.stands.new.spare) (λ was. IsKind (take c.args.header c.args.base.now) (drop 1 c.args.base.now) Active was)
    (kind_active c.args.base.now c.args.header c.requires.gate c.requires.header told _ c.in_ok-stands.field-0 c.sync.ensures.same c.if-branch.true c.in_ok-stands.ensures.there)
    (still_only told _ _ c.in_ok-sync.ensures.durable c.stands.ensures.crash)
