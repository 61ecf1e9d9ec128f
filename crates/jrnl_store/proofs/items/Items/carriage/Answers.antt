use Rattle.std.proofs.Common.{◌∙◌, ap, sym}
use Rattle.avm_num.specs.Bytes.{byte_at}
use Rattle.jrnl_part.specs.Views.{standing_view, bounds_view}
use Rattle.jrnl_store.proofs.ItemLaws.{carriage_some, carriage_value, nothing_whole}
use Rattle.jrnl_store.proofs.items.Items.carriage.Goals as goal

pub invariant_of-result : goal.invariant_of-result
invariant_of-result c =
    let low = c.requires.low in
    let at = ap byte_at (sym c.new-carried.ensures) ∙ c.in-Some.ensures in
    (low.next, (low.used, (low.signed, (c.requires.most, (nothing_whole (bounds_view c.args.bounds) (standing_view c.args.stand) _ c.new.ensures low.used, (carriage_some c.args.bounds.most c.in-Some.count c.args.bytes.now _ at c.requires.fits, tt))))))

pub returns : goal.returns
returns c =
    let at = ap byte_at (sym c.new-carried.ensures) ∙ c.in-Some.ensures in
    carriage_value c.in-Some.count c.args.bytes.now _ _ (standing_view c.args.stand) at c.new.ensures
