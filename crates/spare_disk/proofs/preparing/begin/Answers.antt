use Rattle.spare_disk.proofs.Blanks.{begun_moments}
use Rattle.spare_disk.proofs.preparing.begin.Goals as goal

pub returns-in_err-write_kept-clause-any_moment : goal.returns-in_err-write_kept-clause-any_moment
returns-in_err-write_kept-clause-any_moment g c =
    begun_moments g.E.Disk.moment g.E.Disk.left_since g.E.Disk.may_leave g.met.E.Disk.only_now _ _ c.in_ok-len.len _ _ _ _ c.in_ok-sync.ensures.durable c.sync.ensures.crash c.sync.ensures.time c.len.ensures.crash c.len.ensures.time
    c.sync.ensures.same c.in_ok-len.ensures.len c.if-len-le1.true c.write_kept.ensures.any_moment c.write_kept.ensures.crash

pub returns-in_ok-write_kept-clause-any_moment : goal.returns-in_ok-write_kept-clause-any_moment
returns-in_ok-write_kept-clause-any_moment g c =
    begun_moments g.E.Disk.moment g.E.Disk.left_since g.E.Disk.may_leave g.met.E.Disk.only_now _ _ c.in_ok-len.len _ _ _ _ c.in_ok-sync.ensures.durable c.sync.ensures.crash c.sync.ensures.time c.len.ensures.crash c.len.ensures.time
    c.sync.ensures.same c.in_ok-len.ensures.len c.if-len-le1.true c.write_kept.ensures.any_moment c.write_kept.ensures.crash
