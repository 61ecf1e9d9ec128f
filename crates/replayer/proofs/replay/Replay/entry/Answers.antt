use Rattle.log_entry.specs.Views.{frame_view, content_view}
use Rattle.replayer.proofs.Judged.{frame_goes, frame_faults}
use Rattle.replayer.proofs.replay.Replay.entry.Goals as goal

pub returns-then-judge-clause-goes_on : goal.returns-then-judge-clause-goes_on
returns-then-judge-clause-goes_on c s es h =
    frame_goes s es _ _ (frame_view c.args.frame.now) (content_view c.in-Some-content.content) c.in-Some-content.ensures.exact (rw (← c.self.view_is) at h) c.if-judge.ensures.judged

pub returns-clause-fault : goal.returns-clause-fault
returns-clause-fault c none s es h =
    frame_faults s es _ (frame_view c.args.frame.now) (content_view c.in-Some-content.content) c.in-Some-content.ensures.exact (rw (← c.self.view_is) at h) c.if-judge.ensures.judged
