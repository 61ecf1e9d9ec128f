use Rattle.record_open.proofs.Opened.{attached_err, attached_ok}
use Rattle.record_open.proofs.opening.attach.Goals as goal

pub returns-in-Ok-open_desk-clause-answers : goal.returns-in-Ok-open_desk-clause-answers
returns-in-Ok-open_desk-clause-answers g c =
    attached_ok c.args.signer c.in-Ok.journal c.in-Ok-open_desk.desk (g.D.Disk.seen c.args.disk.now) _ _ (g.D.Disk.may_leave c.open_desk.new.disk) c.in-Ok.ensures.reads.same c.in-Ok-open_desk.ensures.reads.crash c.in-Ok-open_desk.ensures.kept c.in-Ok.ensures.answers c.in-Ok-open_desk.ensures.opens

pub returns-in-Err-open_desk-clause-answers : goal.returns-in-Err-open_desk-clause-answers
returns-in-Err-open_desk-clause-answers g c =
    attached_err c.args.signer c.in-Ok.journal c.in-Err-open_desk.fault (g.D.Disk.seen c.args.disk.now) _ _ (g.D.Disk.may_leave c.open_desk.new.disk) c.in-Ok.ensures.reads.same c.in-Ok.ensures.answers c.in-Err-open_desk.ensures.opens
