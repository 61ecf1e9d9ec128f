use Rattle.std.proofs.Common.{sym, ◌∙◌}
use Rattle.log_entry.specs.Views.{frame_view}
use Rattle.rebut_judge.specs.Judging.{judge_view}
use Rattle.rebut_judge.proofs.Judged.{begin_yes, begin_no}
use Rattle.rebut_judge.proofs.judge.Judge.begin.Goals as goal

pub returns-then-not-commits : goal.returns-then-not-commits
returns-then-not-commits c = begin_no (judge_view c.args.self.now) (frame_view c.args.frame.now) c.requires.fault c.requires.begun (sym c.commits.ensures ∙ c.if-not-commits.true)

pub returns-else-not-commits : goal.returns-else-not-commits
returns-else-not-commits c = begin_yes (judge_view c.args.self.now) (frame_view c.args.frame.now) c.requires.fault c.requires.begun (sym c.commits.ensures ∙ c.if-not-commits.false)
