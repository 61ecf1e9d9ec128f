use Rattle.std.proofs.Common.{◌≡◌, ◌+◌, ◌-◌, ◌*◌, ◌∙◌, List, [], ap, arith, length, get_or, slice_set, true}
use Rattle.avm_model.specs.declared.Digest.{Digest}
use Rattle.page_tree.specs.Nodes.{marked}
use Rattle.page_tree.proofs.EightLeaves.{leaf_first, leaf_step, leaf_count}
use Rattle.page_tree.proofs.renew.renew_eight.Goals as goal

pub loop-k-preserved : goal.loop-k-preserved
loop-k-preserved g c =
    let h = g.P.PageHash.hashes in
    let i = c.loop-k.invariant in
    let k = c.loop-k.k in
    let n = length c.args.ram.now.dirty in
    let start = c.pages.result + c.args.first in
    let p = start + 7 - k in
    let r = i.renewing in
    let inside = r.inside in
    let none : Digest = record { 0 = [] } in
    let page = c.args.first + (7 - k) in
    let leaf = ap (λ (ls : List Digest). get_or ls (7 - k) none) c.leaves-leaves.ensures.value ∙ leaf_first h c.eight_pages.result.now 8 (7 - k) none (omega arith)
    ∙ ap h.leaf (c.eight_pages.ensures (7 - k) (omega arith)) in
    record {
      renewing = leaf_step h c.args.ram.now c.loop-k.nodes c.loop-k.marks _ page p (start + 8 - k) (start + 8 - (k + 1)) (omega arith) (omega (arith, c.pages.ensures.value)) (omega arith) (omega arith)
          (c.requires.dirty (7 - k) (omega arith)) leaf r;
      count = λ base before.
          let now : g.P.PageHash.count c.args.hasher.now + k + 1 ≡ base + marked (slice_set c.loop-k.marks p true) (start + 8 - (k + 1)) (2 * n - (start + 8 - (k + 1))) =
          leaf_count c.loop-k.marks p (start + 8 - k) (start + 8 - (k + 1)) (2 * n) _ base (omega arith) (omega arith) (omega (arith, r.marks_len)) (omega arith) (i.count base before) in
          omega (arith, now);
    }

pub returns-clause-count : goal.returns-clause-count
returns-clause-count g c base before =
    let done : c.loop-k.k ≡ 8 = omega arith in
    let start = c.pages.result + c.args.first in
    let last : start + 8 - 8 ≡ start = omega arith in
    let all = rw (done, last) at (c.loop-k.invariant.count base before) in
    c.leaves-leaves.ensures.count ∙ all
