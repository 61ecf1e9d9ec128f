use Rattle.view_command.specs.Showing.{ShowsState, StateOutOfRange}
use Rattle.view_command.proofs.Ending.{only_four, not_four}
use Rattle.view_command.proofs.Meanings.{means, state_view}
use Rattle.view_command.proofs.view.view_at.Goals as goal

pub returns-clause-means : goal.returns-clause-means
returns-clause-means g c = means (ShowsState c.args.asked.now) (StateOutOfRange c.args.asked.now) (state_view c.args.asked.now) _ _ _ _ _ _ _ c.state_of.result c.state_of.ensures.ends

pub returns-clause-four : goal.returns-clause-four
returns-clause-four g c = only_four (ShowsState c.args.asked.now) (StateOutOfRange c.args.asked.now) _ _ _ _ _ _ _ c.state_of.result c.state_of.ensures.ends

pub returns-clause-not_four : goal.returns-clause-not_four
returns-clause-not_four g c = not_four (ShowsState c.args.asked.now) (StateOutOfRange c.args.asked.now) _ _ _ _ _ _ _ c.state_of.result c.state_of.ensures.ends
