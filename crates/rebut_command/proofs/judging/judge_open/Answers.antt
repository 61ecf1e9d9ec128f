use Rattle.std.proofs.Common.{Bool}
use Rattle.evid_file.specs.Views.{evidence_view}
use Rattle.jrnl_store.specs.Kept.{kept}
use Rattle.rebut_pass.proofs.OnDisk.{reads_both}
use Rattle.rebut_command.proofs.Judgements.{head_told, headless_told, unread_counts, counts_on}
use Rattle.rebut_command.proofs.judging.judge_open.Goals as goal

pub returns-in-Ok-true-clause-ends : goal.returns-in-Ok-true-clause-ends
returns-in-Ok-true-clause-ends g c =
    head_told (g.D.Disk.seen c.args.disk.now) (g.D.Disk.seen c.has_head.new.disk) (kept c.args.journal.now) (kept c.has_head.new.journal) (evidence_view c.args.evidence.now) c.in-Ok-true.field-0 c.judge_key.result
    c.in-Ok-true.ensures.reads.same c.in-Ok-true.ensures.kept c.in-Ok-true.field-0-test c.in-Ok-true.ensures.head c.judge_key.ensures.ends

pub returns-in-Ok-true-clause-reads : goal.returns-in-Ok-true-clause-reads
returns-in-Ok-true-clause-reads g c = reads_both g.D.Disk.seen g.D.Disk.may_leave g.D.Disk.moment g.D.Disk.left_since c.args.disk.now c.has_head.new.disk c.judge_key.new.disk c.in-Ok-true.ensures.reads c.judge_key.ensures.reads

pub returns-in-Ok-true-clause-counts : goal.returns-in-Ok-true-clause-counts
returns-in-Ok-true-clause-counts g c = counts_on _ _ _ c.judge_key.result c.in-Ok-true.ensures.faults c.judge_key.ensures.counts

pub returns-in-Ok-false-clause-ends : goal.returns-in-Ok-false-clause-ends
returns-in-Ok-false-clause-ends g c = headless_told _ (kept c.args.journal.now) (evidence_view c.args.evidence.now) c.in-Ok-false.field-0 c.in-Ok-false.field-0-test c.in-Ok-false.ensures.head

pub returns-in-Err-clause-counts : goal.returns-in-Err-clause-counts
returns-in-Err-clause-counts g c = unread_counts Bool _ _ c.in-Err.fault c.unread.result c.unread.ensures c.in-Err.ensures.faults
