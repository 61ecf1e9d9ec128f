use Rattle.std.proofs.Common.{◌≡◌}
use Rattle.jrnl_store.specs.Kept.{kept}
use Rattle.rebut_pass.proofs.OnDisk.{of_as, of_both, of_whole}
use Rattle.open_replay.specs.Replayed.{AreRun, AreSought}
use Rattle.open_replay.proofs.Sought.{replayed}
use Rattle.open_replay.proofs.replaying.replay.Goals as goal

pub returns-in-Ok-run-clause-replayed : goal.returns-in-Ok-run-clause-replayed
returns-in-Ok-run-clause-replayed g c =
    let told = g.D.Disk.seen c.args.disk.now in
    let k = kept c.args.journal.now in
    of_whole told k (λ j. (c.args.head.bytes ≡ j.header.head → AreSought j c.in-Ok.search) × AreRun j c.in-Ok.search.base.keeps c.in-Ok-judge_of.judge c.in-Ok-run.run') _ (λ j fits keeps p head.
    replayed j c.in-Ok.search c.in-Ok-judge_of.judge c.in-Ok-run.run' c.both.result fits (p.0 head) p.1 c.both.ensures.run c.in-Ok-judge_of.ensures c.both.ensures.tickets c.both.ensures.ram c.pages.ensures.sizes.size)
    (of_both told k _ _ _ (λ j a b. (a, b)) c.in-Ok.ensures.sought (of_as told _ k _ _ c.in-Ok.ensures.reads.same c.in-Ok.ensures.kept c.in-Ok-run.ensures.run))
