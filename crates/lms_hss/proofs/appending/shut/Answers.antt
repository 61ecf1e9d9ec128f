use Rattle.lms_hss.proofs.Appends.{shut_read, place_within, shut_written, shut_stands, shut_moments}
use Rattle.lms_hss.proofs.appending.shut.Goals as goal

pub returns-then-branch-clause-shut : goal.returns-then-branch-clause-shut
returns-then-branch-clause-shut g c = shut_read c.args.gate _ _ _ _ c.in_ok-is_shut.field-0 c.is_shut.ensures.reads.same c.is_shut.ensures.reads.crash c.if-branch.true c.in_ok-is_shut.ensures.shut

pub write_kept-requires-clause-within : goal.write_kept-requires-clause-within
write_kept-requires-clause-within g c = place_within c.args.gate _ _ _ c.is_shut.ensures.reads.same c.requires.roll

pub returns-clause-shut : goal.returns-clause-shut
returns-clause-shut g c =
    shut_written c.args.gate _ _ _ _ _ c.in_ok-is_shut.field-0 c.write_kept.result c.is_shut.ensures.reads.same c.if-branch.false c.in_ok-is_shut.ensures.shut c.write_kept.ensures.written c.write_kept.ensures.kept

pub returns-clause-stands : goal.returns-clause-stands
returns-clause-stands g c =
    shut_stands c.args.gate _ _ _ _ c.in_ok-is_shut.field-0 c.write_kept.result c.is_shut.ensures.reads.same c.if-branch.false c.in_ok-is_shut.ensures.shut c.requires.roll c.write_kept.ensures.written c.write_kept.ensures.failed

pub returns-clause-any_moment : goal.returns-clause-any_moment
returns-clause-any_moment g c =
    shut_moments g.D.Disk.seen g.D.Disk.may_leave g.D.Disk.moment g.D.Disk.left_since c.args.gate _ _ _ c.in_ok-is_shut.field-0 _ _ _ c.is_shut.ensures.reads.crash c.if-branch.false c.in_ok-is_shut.ensures.shut c.is_shut.ensures.reads.any_moment c.write_kept.ensures.any_moment
