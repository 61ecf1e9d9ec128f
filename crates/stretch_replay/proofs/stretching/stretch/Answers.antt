use Rattle.std.proofs.Common.{◌≡◌}
use Rattle.jrnl_store.specs.Kept.{kept}
use Rattle.journal_model.specs.Journal.{parts}
use Rattle.open_keeps.specs.Search.{IsSought}
use Rattle.rebut_pass.proofs.OnDisk.{of_as, of_both, of_whole}
use Rattle.stretch_replay.specs.Running.{AreRun}
use Rattle.stretch_replay.proofs.Sought.{stretched}
use Rattle.stretch_replay.proofs.stretching.stretch.Goals as goal

pub returns-in-Ok-run-clause-stretched : goal.returns-in-Ok-run-clause-stretched
returns-in-Ok-run-clause-stretched g c =
    let told = g.D.Disk.seen c.args.disk.now in
    let k = kept c.args.journal.now in
    of_whole told k (λ j. (c.args.head.bytes ≡ j.header.head → IsSought j.header c.args.number (parts j) c.in-Ok.search) × AreRun j c.args.number c.in-Ok.search.base.keeps c.in-Ok-judge_of.judge c.in-Ok-run.run') _ (λ j fits keeps p head.
    stretched j c.args.number c.in-Ok.search c.in-Ok-judge_of.judge c.in-Ok-run.run' c.end.result fits (p.0 head) p.1 c.end.ensures.fault c.end.ensures.state c.in-Ok-judge_of.ensures)
    (of_both told k _ _ _ (λ j a b. (a, b)) c.in-Ok.ensures.sought (of_as told _ k _ _ c.in-Ok.ensures.reads.same c.in-Ok.ensures.kept c.in-Ok-run.ensures.run))
