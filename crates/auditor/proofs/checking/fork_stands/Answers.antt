use Rattle.auditor.proofs.Checks.{fork_decides}
use Rattle.auditor.proofs.checking.fork_stands.Goals as goal

pub returns : goal.returns
returns c = fork_decides _ _ _ _ _ _ _ c.test_fork.ensures
