use Rattle.std.proofs.Common.{refl, ap}
use Rattle.log_entry.specs.Views.{frame_view}
use Rattle.jrnl_part.specs.Views.{keep_view}
use Rattle.jrnl_store.specs.Items.{item_view, keep_item}
use Rattle.open_keeps.proofs.Searching.{inside_as, seeks_as, seeks_entry, seeks_seal}
use Rattle.open_keeps.proofs.base.Search.follow.Goals as goal

pub returns-in-Entry-clause-sought : goal.returns-in-Entry-clause-sought
returns-in-Entry-clause-sought c = λ inside.
    seeks_as c.args.self.now _ (item_view c.args.item.now) _ (ap item_view c.in-Entry.is)
    (seeks_entry c.args.self.now _ (frame_view c.in-Entry.frame) (record { own = refl; first = refl; last = refl; ram = refl; keeps = refl; base = refl }) c.told_by-self.ensures)

pub returns-in-Seal-clause-sought : goal.returns-in-Seal-clause-sought
returns-in-Seal-clause-sought c = λ inside. seeks_as c.args.self.now c.args.self.now (item_view c.args.item.now) _ (ap item_view c.in-Seal.is) (seeks_seal c.args.self.now)

pub returns-in-Ok-clause-sought : goal.returns-in-Ok-clause-sought
returns-in-Ok-clause-sought c = λ inside.
    seeks_as c.args.self.now c.keep.new.self (item_view c.args.item.now) (keep_item (keep_view c.in-Keep.keep)) (ap item_view c.in-Keep.is)
    (c.in-Ok.ensures.sought (inside_as _ (item_view c.args.item.now) (keep_item (keep_view c.in-Keep.keep)) (ap item_view c.in-Keep.is) inside))
