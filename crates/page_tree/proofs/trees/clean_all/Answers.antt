use Rattle.std.proofs.Common.{arith, ap, ◌∙◌, false, length, List, Bool, slice_set}
use Rattle.std.proofs.lemmas.List.{length-set}
use Rattle.avm_model.specs.Memory.{RamState}
use Rattle.page_tree.proofs.Renewals.{cleaned}
use Rattle.page_tree.proofs.trees.clean_all.Goals as goal

pub loop-i-preserved : goal.loop-i-preserved
loop-i-preserved c =
    let i = c.loop-i.invariant in
    let d = ap (λ (r : RamState). r.dirty) c.clean.ensures in
    record {
      bytes = ap (λ (r : RamState). r.bytes) c.clean.ensures ∙ i.bytes;
      dirty = d ∙ ap (λ (ys : List Bool). slice_set ys c.loop-i.i false) i.dirty ∙ cleaned c.args.ram.now.dirty c.loop-i.i (omega arith);
      len = ap length d ∙ length-set _ _ _ ∙ i.len;
    }
