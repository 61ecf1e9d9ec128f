use Rattle.std.proofs.Common.{arith, ◌∙◌, ◌+◌, ap, List, ℕ, [], ◌∷◌, ◌≡◌, drop, length-append, length-drop, take, length, slice_index}
use Rattle.std.proofs.lemmas.List.{get_or-map, take_all, length-take}
use Rattle.avm_model.specs.Hash.{hash_of}
use Rattle.sha2.specs.Sha256.{sha256}
use Rattle.lms_ots.specs.Chains.{text_at}
use Rattle.lms_ots.proofs.Steps.{step_is}
use Rattle.lms_ots.proofs.lanes.advance.Goals as goal

pub returns : goal.returns
unfolding hash_of
returns c k lt =
    let a = c.loop-k.invariant.done k (omega arith) in
    let mid = c.loop-k.texts in
    let text = text_at mid k in
    let old = text_at c.args.texts.now k in
    let j = slice_index c.args.at.now k + c.args.done in
    let f = λ (t : List ℕ). sha256 (take 55 t) in
    let long : length text ≡ 55 = rw a.1 (omega (arith, a.0, length-append (take 22 old) (j ∷ drop 23 old), length-take 22 old, length-drop 23 old)) in
    let same : text_at c.sha256_x8-next.result k ≡ hash_of text =
    ap (λ (ts : List (List ℕ)). text_at ts k) c.sha256_x8-next.ensures ∙ get_or-map f mid k [] [] (omega arith) ∙ ap sha256 (take_all 55 text (omega arith)) in
    step_is j _ old text (text_at c.sha256_x8-next.result k) (text_at c.values.texts k) (omega arith) a.0 a.1 same (c.values.invariant.done k (omega arith))
