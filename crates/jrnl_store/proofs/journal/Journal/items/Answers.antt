use Rattle.std.proofs.Common.{ap, take}
use Rattle.jrnl_part.specs.Views.{bounds_view}
use Rattle.jrnl_store.proofs.ItemLaws.{held_carriage, held_record}
use Rattle.jrnl_store.proofs.journal.Journal.items.Goals as goal

pub returns-then-held-clause-low : goal.returns-then-held-clause-low
returns-then-held-clause-low c =
    held_carriage (bounds_view c.args.self.now.bounds) c.args.held (take c.args.held.size c.args.self.now.buffer.items) _ _ _ c.if-held.true c.requires.held.whole (ap (take c.args.held.size) c.deref.ensures.value) c.carriage.ensures c.args.self.now.tree

pub returns-else-held-clause-low : goal.returns-else-held-clause-low
returns-else-held-clause-low c =
    held_record (bounds_view c.args.self.now.bounds) c.args.held (take c.args.held.size c.args.self.now.buffer.items) _ _ _ c.if-held.false c.requires.held.whole (ap (take c.args.held.size) c.deref.ensures.value) c.new.ensures c.args.self.now.tree
