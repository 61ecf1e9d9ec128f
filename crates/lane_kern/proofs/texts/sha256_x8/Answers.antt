use Rattle.std.proofs.Common.{rules, ◌≡◌, ◌≤◌, ◌<◌, ◌∙◌, refl, ℕ, [], ◌∷◌, ap, sym, arith, length, take, slice_index_or, map, List}
use Rattle.std.proofs.lemmas.List.{ext_get_or, get_or-map, length-map, length-take}
use Rattle.sha2.specs.Sha256.{sha256}
use Rattle.sha2.specs.Sha256.{digest_bytes, padded_message}
use Rattle.lane_kern.proofs.BlockLaws.{hash_of_short}
use Rattle.lane_kern.proofs.LaneLaws.{below_eight}
use Rattle.lane_kern.proofs.texts.sha256_x8.Goals as goal

pub returns : goal.returns
returns c =
    let texts = c.args.texts.now in
    let text = λ (j : ℕ). take c.args.len (slice_index_or texts j []) in
    let block = below_eight (λ j. slice_index_or (c.padded.result ∷ c.padded-2.result ∷ c.padded-3.result ∷ c.padded-4.result ∷ c.padded-5.result ∷ c.padded-6.result ∷ c.padded-7.result ∷ c.padded-8.result ∷ []) j [] ≡ padded_message (text j))
    c.padded.ensures c.padded-2.ensures c.padded-3.ensures c.padded-4.ensures c.padded-5.ensures c.padded-6.ensures c.padded-7.ensures c.padded-8.ensures in
    let one = λ (j : ℕ) (lt : j < 8).
    let short : length (text j) ≤ 55 = omega (arith, length-take c.args.len (slice_index_or texts j [])) in
    c.digests.ensures j lt
    ∙ ap (λ (h : List ℕ). digest_bytes h 8) (c.absorb.ensures j lt ∙ rw (c.initial.ensures j lt, block j lt) refl)
    ∙ sym (hash_of_short (text j) short) in
    let f = λ (t : List ℕ). sha256 (take c.args.len t) in
    let long : length c.digests.result ≡ 8 = search rules in
    ext_get_or [] c.digests.result (map f texts) (long ∙ sym (length-map texts f ∙ c.told-texts)) (λ j h.
    one j (omega arith) ∙ sym (get_or-map f texts j [] [] (omega (arith, c.told-texts))))
