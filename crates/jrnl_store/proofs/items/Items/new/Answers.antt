use Rattle.jrnl_part.specs.Views.{standing_view}
use Rattle.jrnl_store.proofs.ItemLaws.{none_fit, new_is}
use Rattle.jrnl_store.proofs.items.Items.new.Goals as goal

pub invariant_of-result : goal.invariant_of-result
invariant_of-result c =
    let low = c.requires.low in
    (low.next, (low.used, (low.signed, (c.requires.most, (rw c.new-2.ensures c.requires.whole, (none_fit c.args.bounds.most c.new.result, tt))))))

pub returns : goal.returns
returns c = new_is c.new.result c.new-2.result c.args.bytes.now (standing_view c.args.stand) c.new-2.ensures
