use Rattle.std.proofs.Common.{◌∙◌}
use Rattle.jrnl_store.specs.Items.{item_view}
use Rattle.rebut_pass.proofs.Passes.{taken_next, forms_next}
use Rattle.open_pass.proofs.Lows.{low_rest}
use Rattle.open_pass.proofs.pass.read_items.Goals as goal

pub loop-item-preserved : goal.loop-item-preserved
loop-item-preserved g c = record {
  can = (tt, tt);
  taken = taken_next g.P.Pass.takes c.args.items c.loop-item.left c.next.new.self (item_view c.in-Some.item) c.args.pass.now c.loop-item.pass c.item.new.self c.in-Some.ensures.steps c.in_ok-item.ensures.taken c.loop-item.invariant.taken;
  forms = forms_next c.loop-item.left c.next.new.self (item_view c.in-Some.item) c.in-Some.ensures.steps c.loop-item.invariant.forms;
  low = low_rest (g.P.Pass.most c.args.pass.now) c.loop-item.left c.next.new.self (item_view c.in-Some.item) c.in-Some.ensures.steps c.loop-item.invariant.low;
  stays = c.item.ensures.stays ∙ c.loop-item.invariant.stays;
}
