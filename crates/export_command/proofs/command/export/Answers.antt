use Rattle.export_command.proofs.Ending.{not_four, only_four}
use Rattle.export_command.proofs.Meanings.{means}
use Rattle.export_command.proofs.command.export.Goals as goal

pub returns-clause-means : goal.returns-clause-means
returns-clause-means g c = means _ _ _ _ _ _ _ c.export_entries.result c.export_entries.ensures.ends

pub returns-clause-four : goal.returns-clause-four
returns-clause-four g c = only_four _ _ _ _ _ _ _ c.export_entries.result c.export_entries.ensures.ends

pub returns-clause-not_four : goal.returns-clause-not_four
returns-clause-not_four g c = not_four _ _ _ _ _ _ _ c.export_entries.result c.export_entries.ensures.ends
