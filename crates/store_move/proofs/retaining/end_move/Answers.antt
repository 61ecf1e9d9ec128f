use Rattle.store_move.proofs.Moments.{ends_active}
use Rattle.store_move.proofs.retaining.end_move.Goals as goal

pub returns-in-Ok-clause-spare : goal.returns-in-Ok-clause-spare
returns-in-Ok-clause-spare g c =
    ends_active g.E.Disk.moment g.E.Disk.left_since g.E.Disk.may_leave g.met.E.Disk.only_now c.args.kind _ _ _ c.in-Prepared.is c.activate.ensures.any_moment

pub returns-in-Err-clause-spare : goal.returns-in-Err-clause-spare
returns-in-Err-clause-spare g c =
    ends_active g.E.Disk.moment g.E.Disk.left_since g.E.Disk.may_leave g.met.E.Disk.only_now c.args.kind _ _ _ c.in-Prepared.is c.activate.ensures.any_moment
