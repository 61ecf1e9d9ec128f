use Rattle.std.proofs.Common.{refl}
use Rattle.log_entry.specs.Views.{frame_view}
use Rattle.rebut_judge.specs.Judging.{judge_view}
use Rattle.rebut_judge.proofs.Judged.{follow_yes, follow_no}
use Rattle.rebut_judge.proofs.judge.Judge.follow.Goals as goal

pub returns-in-Err : goal.returns-in-Err
returns-in-Err c = follow_no (judge_view c.args.self.now) _ (frame_view c.args.frame.now) c.in-Err.fault.seq c.requires.fault c.requires.begun refl c.in-Err.ensures.number c.in-Err.ensures.fault

pub returns-in_default : goal.returns-in_default
returns-in_default c = follow_yes (judge_view c.args.self.now) _ (frame_view c.args.frame.now) c.requires.fault c.requires.begun refl c.in_default.ensures.kept.1 c.in_default.ensures.goes_on
