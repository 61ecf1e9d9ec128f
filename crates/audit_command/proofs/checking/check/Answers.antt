use Rattle.audit_command.proofs.Meanings.{check_means}
use Rattle.audit_command.proofs.Runs.{only_four, not_four}
use Rattle.audit_command.proofs.checking.check.Goals as goal

pub returns-clause-means : goal.returns-clause-means
returns-clause-means g c = check_means c.args.key.now c.args.evidence.now _ _ _ _ _ _ _ _ c.check_printed.result c.check_printed.ensures.ends

pub returns-clause-four : goal.returns-clause-four
returns-clause-four g c = only_four _ _ _ _ _ _ _ _ _ c.check_printed.result c.check_printed.ensures.ends

pub returns-clause-not_four : goal.returns-clause-not_four
returns-clause-not_four g c = not_four _ _ _ _ _ _ _ _ _ c.check_printed.result c.check_printed.ensures.ends
