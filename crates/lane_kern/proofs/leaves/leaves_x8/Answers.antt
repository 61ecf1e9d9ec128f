use Rattle.std.proofs.Common.{rules, ◌≡◌, ◌<◌, ◌+◌, ◌*◌, ◌∷◌, ◌∙◌, ℕ, List, [], sym, ap, arith, length, map, slice_range}
use Rattle.std.specs.List.{range_with_len}
use Rattle.std.proofs.lemmas.List.{ext_get_or}
use Rattle.std.proofs.lemmas.List.FromFn.{get_or-map-range_with_len}
use Rattle.sha2.specs.Sha256.{compress, digest_bytes}
use Rattle.sha2.specs.Sha256.{sha256}
use Rattle.lane_kern.specs.Leaves.{leaf_block}
use Rattle.lane_kern.proofs.LeafLaws.{state_start, state_next, state_end, page_length}
use Rattle.lane_kern.proofs.leaves.leaves_x8.Goals as goal

pub loop-i-init : goal.loop-i-init
loop-i-init c j lt = c.initial-state.ensures j lt ∙ sym (state_start (slice_range c.args.pages.now (4096 * j) (4096 * j + 4096)))

pub loop-i-preserved : goal.loop-i-preserved
loop-i-preserved c j lt =
    let page = slice_range c.args.pages.now (4096 * j) (4096 * j + 4096) in
    c.absorb_pages-next.ensures j lt ∙ ap (λ (h : List ℕ). compress h (leaf_block page c.loop-i.i)) (c.loop-i.invariant j lt)
    ∙ sym (state_next page c.loop-i.i)

pub returns : goal.returns
returns c =
    let pages = c.args.pages.now in
    let done : c.loop-i.i ≡ 65 = omega arith in
    let f = λ (k : ℕ). sha256 (0 ∷ slice_range pages (4096 * k) (4096 * k + 4096)) in
    let one = λ (j : ℕ) (lt : j < 8).
    c.digests.ensures j lt ∙ ap (λ (h : List ℕ). digest_bytes h 8) (rw done at (c.loop-i.invariant j lt))
    ∙ state_end (slice_range pages (4096 * j) (4096 * j + 4096)) (page_length pages j (omega (arith, c.told-pages))) in
    let long : length c.digests.result ≡ 8 = search rules in
    ext_get_or [] c.digests.result (map f (range_with_len 0 8)) long (λ j h.
    one j (omega arith) ∙ sym (get_or-map-range_with_len f 0 8 j j [] (omega arith) (omega arith)))
