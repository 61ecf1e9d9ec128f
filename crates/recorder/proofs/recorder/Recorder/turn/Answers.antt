use Rattle.recorder.proofs.Stopping.{plain_turn}
use Rattle.recorder.proofs.recorder.Recorder.turn.Goals as goal

pub returns-in-Ok-clause-turns : goal.returns-in-Ok-clause-turns
returns-in-Ok-clause-turns g c = λ none. rw (plain_turn c.in-Ok.turn c.in-Ok.ensures.plain) (rw c.in-Ok.is at c.turn_on.ensures.turns)
