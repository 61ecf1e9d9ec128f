use Rattle.world_laws.proofs.Sending.{step_sends}
use Rattle.world_laws.proofs.Keeping.{act_event}
use Rattle.world_laws.proofs.laws.acts_are_events.Goals as goal

pub returns-clause-sends : goal.returns-clause-sends
returns-clause-sends c s t os e = step_sends s t os e

pub returns-clause-act : goal.returns-clause-act
returns-clause-act c who pages r act e h fits q keeps s = act_event who pages r act e h fits q keeps s
