use Rattle.std.proofs.Common.{◌≡◌}
use Rattle.jrnl_store.specs.Kept.{kept}
use Rattle.rebut_pass.proofs.OnDisk.{of_as, of_both, of_whole}
use Rattle.base_survey.specs.Surveys.{IsPlace}
use Rattle.stretch_replay.specs.Stretched.{IsStretched}
use Rattle.base_build.proofs.Judged.{judged}
use Rattle.base_build.proofs.judging.judge.Goals as goal

pub returns-clause-judges : goal.returns-clause-judges
returns-clause-judges g c =
    let told = g.D.Disk.seen c.args.disk.now in
    let k = kept c.args.journal.now in
    of_whole told k (λ j. (c.args.head.bytes ≡ j.header.head → IsStretched j c.args.at c.in-Ok.read) × IsPlace j c.args.at c.in-Ok-read_place.place) _ (λ j fits keeps p same.
    judged j c.args.at c.in-Ok.read c.in-Ok-read_place.place c.take_point.result fits (p.0 same) p.1 c.take_point.ensures)
    (of_both told k _ _ _ (λ j a b. (a, b)) c.in-Ok.ensures.stretched (of_as told _ k _ _ c.in-Ok.ensures.reads.same c.in-Ok.ensures.kept c.in-Ok-read_place.ensures.place))
