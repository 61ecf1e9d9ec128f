use Rattle.jrnl_store.specs.Kept.{kept}
use Rattle.jrnl_store.proofs.Commits.{is_behind}
use Rattle.jrnl_store.proofs.journal.Journal.behind.Goals as goal

pub returns-clause-value : goal.returns-clause-value
returns-clause-value c = is_behind (kept c.args.self.now) c.args.items.now c.continued.result c.requires.batch c.args.self.now.used c.continued.ensures.value c.continued.ensures.low
