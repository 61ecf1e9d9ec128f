use Rattle.std.proofs.Common.{◌∙◌}
use Rattle.jrnl_store.specs.Items.{item_view}
use Rattle.rebut_pass.proofs.Passes.{taken_next, forms_next}
use Rattle.journal_export.specs.Writing.{Writes}
use Rattle.journal_export.proofs.writing.write_items.Goals as goal

pub loop-item-preserved : goal.loop-item-preserved
loop-item-preserved g c = record {
  can = (tt, tt);
  taken = taken_next Writes c.args.items c.loop-item.left c.next.new.self (item_view c.in-Some.item) _ _ _ c.in-Some.ensures.steps c.in_default-write_item.ensures.writes c.loop-item.invariant.taken;
  forms = forms_next c.loop-item.left c.next.new.self (item_view c.in-Some.item) c.in-Some.ensures.steps c.loop-item.invariant.forms;
  others = λ n ne. c.write_item.ensures.others n ne ∙ c.loop-item.invariant.others n ne;
  faults = c.in_default-write_item.ensures.faults ∙ c.loop-item.invariant.faults;
}
