use Rattle.log_entry.proofs.FrameLaws.{yields, progress}
use Rattle.log_entry.proofs.frames.FramesIterator.next.Goals as goal

pub returns-clause-steps : goal.returns-clause-steps
returns-clause-steps c = rw (← c.self.view_is) (yields _ _ _ c.read_frame.ensures.exact, c.read_frame.ensures.exact)

pub returns-clause-goes : goal.returns-clause-goes
returns-clause-goes c = rw (← c.self.view_is) (progress _ (λ _. tt) _ _ _ (yields _ _ _ c.read_frame.ensures.exact))
