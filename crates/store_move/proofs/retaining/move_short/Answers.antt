use Rattle.jrnl_store.specs.Kept.{kept}
use Rattle.store_move.proofs.Together.{still_told}
use Rattle.store_move.proofs.retaining.move_short.Goals as goal
use Rattle.store_move.proofs.Moments.{stands_still}

pub returns-then-base-clause-together : goal.returns-then-base-clause-together
returns-then-base-clause-together g c =
    still_told g.D.Disk.moment g.D.Disk.left_since g.D.Disk.may_leave g.met.D.Disk.only_now g.E.Disk.moment g.E.Disk.left_since g.E.Disk.may_leave g.met.E.Disk.only_now (kept c.args.journal.now) c.args.at _ _ _ _

pub returns-then-base-clause-store : goal.returns-then-base-clause-store
returns-then-base-clause-store g c =
    stands_still g.D.Disk.moment g.D.Disk.left_since g.D.Disk.may_leave g.met.D.Disk.only_now (kept c.args.journal.now) c.args.at _ _ c.requires.run
