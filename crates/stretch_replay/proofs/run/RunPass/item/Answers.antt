use Rattle.std.proofs.Common.{ap}
use Rattle.jrnl_store.specs.Items.{item_view}
use Rattle.log_entry.specs.Views.{frame_view}
use Rattle.stretch_replay.proofs.Running.{runs_as}
use Rattle.stretch_replay.proofs.run.RunPass.item.Goals as goal

pub returns-in-Entry-clause-taken : goal.returns-in-Entry-clause-taken
returns-in-Entry-clause-taken c = runs_as c.args.self.now _ (item_view c.args.item.now) (frame_view c.in-Entry.frame) _ (ap item_view c.in-Entry.is) c.entry.ensures.runs
