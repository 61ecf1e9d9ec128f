use Rattle.std.proofs.Common.{◌+◌, ◌-◌, ◌∙◌, List, [], ap, arith, length, get_or}
use Rattle.avm_model.specs.declared.Digest.{Digest}
use Rattle.page_tree.proofs.EightLeaves.{leaf_first, leaf_built}
use Rattle.page_tree.proofs.building.build_eight.Goals as goal

pub loop-k-preserved : goal.loop-k-preserved
loop-k-preserved g c =
    let h = g.P.PageHash.hashes in
    let r = c.loop-k.invariant in
    let k = c.loop-k.k in
    let start = c.pages.result + c.args.first in
    let p = start + 7 - k in
    let none : Digest = record { 0 = [] } in
    let leaf = ap (λ (ls : List Digest). get_or ls (7 - k) none) c.leaves-leaves.ensures.value ∙ leaf_first h c.eight_pages.result.now 8 (7 - k) none (omega arith)
    ∙ ap h.leaf (c.eight_pages.ensures (7 - k) (omega arith)) in
    leaf_built h c.args.ram.now.bytes (length c.args.ram.now.dirty) c.loop-k.nodes _ (c.args.first + (7 - k)) p (start + 8 - k) (start + 8 - (k + 1)) (omega arith)
    (omega (arith, c.pages.ensures.value)) (omega arith) (omega arith) leaf r
