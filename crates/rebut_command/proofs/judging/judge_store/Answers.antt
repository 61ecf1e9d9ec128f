use Rattle.evid_file.specs.Views.{evidence_view}
use Rattle.jrnl_store.specs.Kept.{kept}
use Rattle.rebut_pass.proofs.OnDisk.{reads_both}
use Rattle.rebut_command.proofs.Judgements.{store_told, unopened_told, unopened_counts, counts_on}
use Rattle.rebut_command.proofs.judging.judge_store.Goals as goal

pub returns-in-Ok-clause-ends : goal.returns-in-Ok-clause-ends
returns-in-Ok-clause-ends g c =
    store_told (g.D.Disk.seen c.args.disk.now) (g.D.Disk.seen c.attach.new.disk) (kept c.in-Ok.journal) (g.D.Disk.may_leave c.attach.new.disk) (evidence_view c.args.evidence.now) c.judge_open.result c.in-Ok.ensures.same c.in-Ok.ensures.answers c.judge_open.ensures.ends

pub returns-in-Ok-clause-reads : goal.returns-in-Ok-clause-reads
returns-in-Ok-clause-reads g c =
    reads_both g.D.Disk.seen g.D.Disk.may_leave g.D.Disk.moment g.D.Disk.left_since c.args.disk.now c.attach.new.disk c.judge_open.new.disk
    (record { same = c.in-Ok.ensures.same; crash = c.in-Ok.ensures.crash; later = c.in-Ok.ensures.later; moments = c.in-Ok.ensures.moments }) c.judge_open.ensures.reads

pub returns-in-Ok-clause-counts : goal.returns-in-Ok-clause-counts
returns-in-Ok-clause-counts g c = counts_on _ _ _ c.judge_open.result c.in-Ok.ensures.faults c.judge_open.ensures.counts

pub returns-in-Err-clause-ends : goal.returns-in-Err-clause-ends
returns-in-Err-clause-ends g c = unopened_told _ (g.D.Disk.may_leave c.attach.new.disk) (evidence_view c.args.evidence.now) c.in-Err.fault c.unopened.result c.unopened.ensures c.in-Err.ensures.answers

pub returns-in-Err-clause-counts : goal.returns-in-Err-clause-counts
returns-in-Err-clause-counts g c = unopened_counts _ _ c.in-Err.fault c.unopened.result c.unopened.ensures c.in-Err.ensures.faults
