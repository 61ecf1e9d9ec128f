use Rattle.avm_model.specs.Pages.{sha_hashes}
use Rattle.keep_judge.proofs.paged.Paged.keep.Goals as goal

pub root_counted-requires-clause-stale : goal.root_counted-requires-clause-stale
root_counted-requires-clause-stale c = c.patch.ensures.stale sha_hashes c.args.self.now.tree c.args.self.now.stale
