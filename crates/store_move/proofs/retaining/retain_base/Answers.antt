use Rattle.std.proofs.Common.{◌∙◌, sym, refl, take, drop}
use Rattle.jrnl_store.specs.Kept.{kept}
use Rattle.store_move.proofs.Together.{ended_whole, moved_whole, read_whole}
use Rattle.store_move.proofs.Answering.{ending_needs, moved_answers, prepared_opens}
use Rattle.store_move.proofs.retaining.retain_base.Goals as goal
use Rattle.store_move.proofs.Moments.{since_ended, since_moved, stands_still, stands_unmarked}

pub end_move-requires : goal.end_move-requires
end_move-requires g c = record {
  prepared = λ is. ending_needs (take c.args.header c.args.base.now) (drop 1 c.args.base.now) (g.E.Disk.may_leave c.spare_kind.new.spare) (g.E.Disk.seen c.args.spare.now) (g.E.Disk.seen c.spare_kind.new.spare) c.in-Ok.kind c.spare_kind.ensures.same c.in-Ok.ensures.kind is;
}

pub returns-in-Err-clause-together : goal.returns-in-Err-clause-together
returns-in-Err-clause-together g c =
    read_whole g.D.Disk.moment g.D.Disk.left_since g.D.Disk.may_leave g.met.D.Disk.only_now g.E.Disk.moment g.E.Disk.left_since g.E.Disk.may_leave g.met.E.Disk.only_now (kept c.args.journal.now) c.args.at (kept c.args.journal.now).mark _ _ _ _ _ c.requires.run refl (c.spare_kind.ensures.crash, c.spare_kind.ensures.any_moment)

pub returns-in-Active-clause-together : goal.returns-in-Active-clause-together
returns-in-Active-clause-together g c =
    read_whole g.D.Disk.moment g.D.Disk.left_since g.D.Disk.may_leave g.met.D.Disk.only_now g.E.Disk.moment g.E.Disk.left_since g.E.Disk.may_leave g.met.E.Disk.only_now (kept c.args.journal.now) c.args.at (kept c.args.journal.now).mark _ _ _ _ _ c.requires.run refl (c.spare_kind.ensures.crash, c.spare_kind.ensures.any_moment)

pub returns-in-Other-clause-together : goal.returns-in-Other-clause-together
returns-in-Other-clause-together g c =
    read_whole g.D.Disk.moment g.D.Disk.left_since g.D.Disk.may_leave g.met.D.Disk.only_now g.E.Disk.moment g.E.Disk.left_since g.E.Disk.may_leave g.met.E.Disk.only_now (kept c.args.journal.now) c.args.at (kept c.args.journal.now).mark _ _ _ _ _ c.requires.run refl (c.spare_kind.ensures.crash, c.spare_kind.ensures.any_moment)

pub returns-in-Free-clause-together : goal.returns-in-Free-clause-together
returns-in-Free-clause-together g c =
    moved_whole g.D.Disk.moment g.D.Disk.left_since g.D.Disk.may_leave g.met.D.Disk.only_now g.E.Disk.moment g.E.Disk.left_since g.E.Disk.may_leave g.met.E.Disk.only_now (kept c.args.journal.now) c.args.at _ _ _ _ _ _ _ _ (sym c.retired.ensures ∙ c.in-None.is) c.spare_kind.ensures.same (c.spare_kind.ensures.crash, c.spare_kind.ensures.any_moment) c.move_short.ensures.together

pub returns-in-Prepared-clause-together : goal.returns-in-Prepared-clause-together
returns-in-Prepared-clause-together g c =
    moved_whole g.D.Disk.moment g.D.Disk.left_since g.D.Disk.may_leave g.met.D.Disk.only_now g.E.Disk.moment g.E.Disk.left_since g.E.Disk.may_leave g.met.E.Disk.only_now (kept c.args.journal.now) c.args.at _ _ _ _ _ _ _ _ (sym c.retired.ensures ∙ c.in-None.is) c.spare_kind.ensures.same (c.spare_kind.ensures.crash, c.spare_kind.ensures.any_moment) c.move_short-in-Prepared.ensures.together

pub returns-in-Some-clause-together : goal.returns-in-Some-clause-together
returns-in-Some-clause-together g c =
    ended_whole g.D.Disk.moment g.D.Disk.left_since g.D.Disk.may_leave g.met.D.Disk.only_now g.E.Disk.moment g.E.Disk.left_since g.E.Disk.may_leave g.met.E.Disk.only_now (kept c.args.journal.now) c.args.at _ _ _ _ _ _ _ _ c.requires.run (sym c.retired.ensures ∙ c.in-Some.is) c.spare_kind.ensures.same (c.spare_kind.ensures.crash, c.spare_kind.ensures.any_moment) c.end_move.ensures.any_moment

pub returns-in-Prepared-clause-answers : goal.returns-in-Prepared-clause-answers
returns-in-Prepared-clause-answers g c =
    let told = g.E.Disk.seen c.args.spare.now in
    let seen = rw c.in-Prepared.is at c.in-Ok.ensures.kind in
    moved_answers told (kept c.args.journal.now) c.args.at (take c.args.header c.args.base.now) (drop 1 c.args.base.now) _ (sym c.retired.ensures ∙ c.in-None.is) (prepared_opens told (take c.args.header c.args.base.now) (drop 1 c.args.base.now) (g.E.Disk.may_leave c.spare_kind.new.spare) seen) c.move_short-in-Prepared.ensures.cause

pub returns-in-Err-clause-store : goal.returns-in-Err-clause-store
returns-in-Err-clause-store g c =
    stands_unmarked g.D.Disk.moment g.D.Disk.left_since g.D.Disk.may_leave g.met.D.Disk.only_now (kept c.args.journal.now) c.args.at _ _ _ (stands_still g.D.Disk.moment g.D.Disk.left_since g.D.Disk.may_leave g.met.D.Disk.only_now (kept c.args.journal.now) c.args.at _ _ c.requires.run)

pub returns-in-Active-clause-store : goal.returns-in-Active-clause-store
returns-in-Active-clause-store g c =
    stands_unmarked g.D.Disk.moment g.D.Disk.left_since g.D.Disk.may_leave g.met.D.Disk.only_now (kept c.args.journal.now) c.args.at _ _ _ (stands_still g.D.Disk.moment g.D.Disk.left_since g.D.Disk.may_leave g.met.D.Disk.only_now (kept c.args.journal.now) c.args.at _ _ c.requires.run)

pub returns-in-Other-clause-store : goal.returns-in-Other-clause-store
returns-in-Other-clause-store g c =
    stands_unmarked g.D.Disk.moment g.D.Disk.left_since g.D.Disk.may_leave g.met.D.Disk.only_now (kept c.args.journal.now) c.args.at _ _ _ (stands_still g.D.Disk.moment g.D.Disk.left_since g.D.Disk.may_leave g.met.D.Disk.only_now (kept c.args.journal.now) c.args.at _ _ c.requires.run)

pub returns-in-Some-clause-spare : goal.returns-in-Some-clause-spare
returns-in-Some-clause-spare g c =
    since_ended g.E.Disk.moment g.E.Disk.left_since g.E.Disk.may_leave g.met.E.Disk.only_now (kept c.args.journal.now).mark (take c.args.header c.args.base.now) (drop 1 c.args.base.now) _ _ _ _ _ c.in-Ok.kind c.spare_kind.ensures.same (c.spare_kind.ensures.crash, c.spare_kind.ensures.any_moment) c.in-Ok.ensures.kind c.end_move.ensures.spare

pub returns-in-Free-clause-spare : goal.returns-in-Free-clause-spare
returns-in-Free-clause-spare g c =
    since_moved g.E.Disk.moment g.E.Disk.left_since g.E.Disk.may_leave g.met.E.Disk.only_now (kept c.args.journal.now).mark (drop 1 c.args.base.now) _ _ _ _ _ (sym c.retired.ensures ∙ c.in-None.is) c.spare_kind.ensures.same (c.spare_kind.ensures.crash, c.spare_kind.ensures.any_moment) c.move_short.ensures.spare

pub returns-in-Prepared-clause-spare : goal.returns-in-Prepared-clause-spare
returns-in-Prepared-clause-spare g c =
    since_moved g.E.Disk.moment g.E.Disk.left_since g.E.Disk.may_leave g.met.E.Disk.only_now (kept c.args.journal.now).mark (drop 1 c.args.base.now) _ _ _ _ _ (sym c.retired.ensures ∙ c.in-None.is) c.spare_kind.ensures.same (c.spare_kind.ensures.crash, c.spare_kind.ensures.any_moment) c.move_short-in-Prepared.ensures.spare
