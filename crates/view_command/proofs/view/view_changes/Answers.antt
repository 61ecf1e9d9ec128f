use Rattle.view_command.specs.Showing.{ShowsChanges, ChangesOutOfRange}
use Rattle.view_command.proofs.Ending.{only_four, not_four}
use Rattle.view_command.proofs.Meanings.{means, changes_view}
use Rattle.view_command.proofs.view.view_changes.Goals as goal

pub returns-clause-means : goal.returns-clause-means
returns-clause-means g c = means (ShowsChanges c.args.address) (ChangesOutOfRange c.args.address) (changes_view c.args.address) _ _ _ _ _ _ _ c.changes_of.result c.changes_of.ensures.ends

pub returns-clause-four : goal.returns-clause-four
returns-clause-four g c = only_four (ShowsChanges c.args.address) (ChangesOutOfRange c.args.address) _ _ _ _ _ _ _ c.changes_of.result c.changes_of.ensures.ends

pub returns-clause-not_four : goal.returns-clause-not_four
returns-clause-not_four g c = not_four (ShowsChanges c.args.address) (ChangesOutOfRange c.args.address) _ _ _ _ _ _ _ c.changes_of.result c.changes_of.ensures.ends
