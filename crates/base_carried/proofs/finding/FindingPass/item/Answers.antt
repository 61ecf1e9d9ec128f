use Rattle.std.proofs.Common.{ap}
use Rattle.std.specs.Prelude.{option_map}
use Rattle.jrnl_part.specs.Views.{keep_view}
use Rattle.jrnl_store.specs.Items.{item_view}
use Rattle.jrnl_store.specs.Kept.{ticket_view}
use Rattle.log_entry.specs.Views.{frame_view}
use Rattle.base_carried.proofs.Founds.{finds_carried, finds_entry, finds_keep, finds_seal}
use Rattle.base_carried.proofs.finding.FindingPass.item.Goals as goal

pub returns-in-Carried : goal.returns-in-Carried
returns-in-Carried c = record { taken = finds_carried c.args.self.now _ (item_view c.args.item.now) (frame_view c.in-Carried.frame) _ (ap item_view c.in-Carried.is) c.entry.ensures.number c.entry.ensures.rows }

pub returns-in-Entry : goal.returns-in-Entry
returns-in-Entry c = record { taken = finds_entry c.args.self.now _ (item_view c.args.item.now) (frame_view c.in-Entry.frame) (option_map ticket_view c.in-Entry.ticket) (ap item_view c.in-Entry.is) c.signed.ensures.number c.signed.ensures.rows }

pub returns-in-Seal : goal.returns-in-Seal
returns-in-Seal c = record { taken = finds_seal c.args.self.now (item_view c.args.item.now) (ticket_view c.in-Seal.field-0) (ap item_view c.in-Seal.is) }

pub returns-in-Keep : goal.returns-in-Keep
returns-in-Keep c = record { taken = finds_keep c.args.self.now (item_view c.args.item.now) (keep_view c.in-Keep.field-0) (ap item_view c.in-Keep.is) }
