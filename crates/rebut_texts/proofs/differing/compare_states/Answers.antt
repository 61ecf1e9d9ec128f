use Rattle.std.proofs.Common.{ap, ◌∙◌}
use Rattle.avm_model.specs.Memory.{RamState}
use Rattle.rebut_texts.proofs.Opened.{texts_same, trees_ready, pages_found, value_as, ram_is}
use Rattle.rebut_texts.proofs.differing.compare_states.Goals as goal

pub walk_pages-requires : goal.walk_pages-requires
walk_pages-requires c =
    let s = c.args.ours.now.state in
    let t = c.args.theirs.now.state in
    let same = texts_same s t c.as_slice.result.now c.as_slice-2.result.now c.ne.result (c.as_slice.ensures ∙ c.in_ok-our_text.ensures.text) (c.as_slice-2.ensures ∙ c.in_ok-their_text.ensures.text) c.ne.ensures c.if-ne.false in
    let a = c.bytes.ensures.value ∙ ap (λ (r : RamState). r.bytes) c.ram.ensures in
    let b = c.bytes-2.ensures.value ∙ ap (λ (r : RamState). r.bytes) c.ram-2.ensures in
    trees_ready s t c.args.ours.now.dirty c.args.theirs.now.dirty c.args.our_tree.now c.args.their_tree.now _ _ _ _ c.nodes.ensures.value c.nodes-2.ensures.value a b (ram_is _ _ _ c.ram.ensures c.bytes.ensures.sizes) (ram_is _ _ _ c.ram-2.ensures c.bytes-2.ensures.sizes)
    c.in_ok-our_text.ensures.whole c.in_ok-their_text.ensures.whole same c.requires.tree c.requires.their_tree

pub returns-clause-value : goal.returns-clause-value
returns-clause-value c =
    let s = c.args.ours.now.state in
    let t = c.args.theirs.now.state in
    let same = texts_same s t c.as_slice.result.now c.as_slice-2.result.now c.ne.result (c.as_slice.ensures ∙ c.in_ok-our_text.ensures.text) (c.as_slice-2.ensures ∙ c.in_ok-their_text.ensures.text) c.ne.ensures c.if-ne.false in
    let a = c.bytes.ensures.value ∙ ap (λ (r : RamState). r.bytes) c.ram.ensures in
    let b = c.bytes-2.ensures.value ∙ ap (λ (r : RamState). r.bytes) c.ram-2.ensures in
    let found = pages_found s t c.args.ours.now.dirty c.args.theirs.now.dirty c.args.our_tree.now c.args.their_tree.now _ _ _ _ c.nodes.ensures.value c.nodes-2.ensures.value a b (ram_is _ _ _ c.ram.ensures c.bytes.ensures.sizes) (ram_is _ _ _ c.ram-2.ensures c.bytes-2.ensures.sizes)
    c.in_ok-our_text.ensures.whole c.in_ok-their_text.ensures.whole same c.requires.tree c.requires.their_tree in
    value_as c.walk_pages.result _ _ found c.walk_pages.ensures
