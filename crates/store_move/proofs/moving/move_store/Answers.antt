use Rattle.std.proofs.Common.{◌∙◌, ap, drop}
use Rattle.jrnl_store.specs.Kept.{Kept, kept}
use Rattle.store_move.proofs.Together.{first_told, second_told, third_told}
use Rattle.store_move.proofs.moving.move_store.Goals as goal
use Rattle.store_move.proofs.Moments.{free_first, free_third, stands_still}

pub returns-in_default-clause-together : goal.returns-in_default-clause-together
returns-in_default-clause-together g c =
    first_told g.D.Disk.moment g.D.Disk.left_since g.D.Disk.may_leave g.met.D.Disk.only_now g.E.Disk.moment g.E.Disk.left_since g.E.Disk.may_leave g.met.E.Disk.only_now (kept c.args.journal.now) c.args.at _ _ _ _ _ c.prepare.ensures.any_moment

pub returns-in-Err-clause-together : goal.returns-in-Err-clause-together
returns-in-Err-clause-together g c =
    second_told g.D.Disk.moment g.D.Disk.left_since g.D.Disk.may_leave g.met.D.Disk.only_now g.E.Disk.moment g.E.Disk.left_since g.E.Disk.may_leave g.met.E.Disk.only_now (kept c.args.journal.now) c.args.at _ _ _ _ _ _ c.requires.run c.prepare.ensures.any_moment c.retire.ensures.any_moment

pub returns-in-Ok-activate-clause-together : goal.returns-in-Ok-activate-clause-together
returns-in-Ok-activate-clause-together g c =
    third_told g.D.Disk.moment g.D.Disk.left_since g.D.Disk.may_leave g.met.D.Disk.only_now g.E.Disk.moment g.E.Disk.left_since g.E.Disk.may_leave g.met.E.Disk.only_now (kept c.args.journal.now) (kept c.retire.new.self) c.args.at (drop 1 c.args.base.now) _ _ _ _ _ _ _ _ _ c.requires.run (ap (λ (k : Kept). k.stop) c.in-Ok-retire.ensures.kept ∙ c.requires.run)
    c.prepare.ensures.any_moment c.retire.ensures.any_moment c.in-Ok-retire.ensures.own c.in-Ok.ensures.prepared c.activate.ensures.any_moment

pub returns-in-Err-activate-clause-together : goal.returns-in-Err-activate-clause-together
returns-in-Err-activate-clause-together g c =
    third_told g.D.Disk.moment g.D.Disk.left_since g.D.Disk.may_leave g.met.D.Disk.only_now g.E.Disk.moment g.E.Disk.left_since g.E.Disk.may_leave g.met.E.Disk.only_now (kept c.args.journal.now) (kept c.retire.new.self) c.args.at (drop 1 c.args.base.now) _ _ _ _ _ _ _ _ _ c.requires.run (ap (λ (k : Kept). k.stop) c.in-Ok-retire.ensures.kept ∙ c.requires.run)
    c.prepare.ensures.any_moment c.retire.ensures.any_moment c.in-Ok-retire.ensures.own c.in-Ok.ensures.prepared c.activate.ensures.any_moment

pub returns-in_default-clause-store : goal.returns-in_default-clause-store
returns-in_default-clause-store g c =
    stands_still g.D.Disk.moment g.D.Disk.left_since g.D.Disk.may_leave g.met.D.Disk.only_now (kept c.args.journal.now) c.args.at _ _ c.requires.run

pub returns-in_default-clause-spare : goal.returns-in_default-clause-spare
returns-in_default-clause-spare g c =
    free_first g.E.Disk.moment g.E.Disk.left_since g.E.Disk.may_leave g.met.E.Disk.only_now (drop 1 c.args.base.now) _ _ _ c.prepare.ensures.any_moment

pub returns-in-Err-clause-spare : goal.returns-in-Err-clause-spare
returns-in-Err-clause-spare g c =
    free_first g.E.Disk.moment g.E.Disk.left_since g.E.Disk.may_leave g.met.E.Disk.only_now (drop 1 c.args.base.now) _ _ _ c.prepare.ensures.any_moment

pub returns-in-Ok-activate-clause-spare : goal.returns-in-Ok-activate-clause-spare
returns-in-Ok-activate-clause-spare g c =
    free_third g.E.Disk.moment g.E.Disk.left_since g.E.Disk.may_leave g.met.E.Disk.only_now (drop 1 c.args.base.now) _ _ _ _ _ c.prepare.ensures.any_moment c.in-Ok.ensures.prepared c.activate.ensures.any_moment

pub returns-in-Err-activate-clause-spare : goal.returns-in-Err-activate-clause-spare
returns-in-Err-activate-clause-spare g c =
    free_third g.E.Disk.moment g.E.Disk.left_since g.E.Disk.may_leave g.met.E.Disk.only_now (drop 1 c.args.base.now) _ _ _ _ _ c.prepare.ensures.any_moment c.in-Ok.ensures.prepared c.activate.ensures.any_moment
