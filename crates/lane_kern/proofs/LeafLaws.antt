-- The blocks of a leaf's text: the byte 0, the page, and the padding of 4097 bytes.
use Rattle.std.proofs.Common.{◌≡◌, ℕ, suc, ◌+◌, ◌-◌, ◌*◌, ◌≤◌, ◌<◌, List, ◌∷◌, ◌++◌, length, take, drop, get_or, replicate, slice_range, length-drop, drop-cons, arith, refl, sym, ap}
use Rattle.std.proofs.lemmas.List.{length-take-le, take-append-le, drop-append-le, drop_all}
use Rattle.std.specs.Int.{w64, to_be_bytes}
use Rattle.sha2.specs.Sha256.{compress, digest_bytes, hash_after, initial_hash_256}
use Rattle.sha2.proofs.Absorbing256.{hash_after_next}
use Rattle.sha2.specs.Sha256.{sha256}
use Rattle.lane_kern.specs.Leaves.{leaf_text, leaf_block, leaf_state}
use Rattle.lane_kern.proofs.BlockLaws.{hash_of_blocks, length_padded}

text_is : (page : List ℕ) → length page ≡ 4096 → leaf_text page ≡ 0 ∷ (page ++ (0x80 ∷ (replicate 54 0 ++ to_be_bytes w64 32776)))
unfolding leaf_text
text_is page long =
    let size : length (0 ∷ page) ≡ 4097 = omega arith in
    rw size refl

pub block_first : (page : List ℕ) → length page ≡ 4096 → leaf_block page 0 ≡ 0 ∷ take 63 page
unfolding leaf_block
block_first page long =
    let rest : List ℕ = 0x80 ∷ (replicate 54 0 ++ to_be_bytes w64 32776) in
    rw (text_is page long) (ap (λ (xs : List ℕ). 0 ∷ xs) (take-append-le 63 page rest (omega arith)))

pub block_inner : (page : List ℕ) (i : ℕ) → length page ≡ 4096 → 0 < i → i < 64 → leaf_block page i ≡ take 64 (drop (64 * i - 1) page)
unfolding leaf_block
block_inner page i long some below =
    let rest : List ℕ = 0x80 ∷ (replicate 54 0 ++ to_be_bytes w64 32776) in
    let at : i * 64 ≡ suc (64 * i - 1) = omega arith in
    rw (text_is page long, at, drop-append-le (64 * i - 1) page rest (omega arith))
    (take-append-le 64 (drop (64 * i - 1) page) rest (omega (arith, length-drop (64 * i - 1) page)))

pub block_last : (page : List ℕ) → length page ≡ 4096 → leaf_block page 64 ≡ get_or page 4095 0 ∷ (0x80 ∷ (replicate 54 0 ++ to_be_bytes w64 32776))
unfolding leaf_block
block_last page long =
    let rest : List ℕ = 0x80 ∷ (replicate 54 0 ++ to_be_bytes w64 32776) in
    let one : drop 4095 page ≡ get_or page 4095 0 ∷ drop 4096 page = drop-cons page 4095 0 (omega arith) in
    rw (text_is page long, drop-append-le 4095 page rest (omega arith), one, drop_all 4096 page (omega arith)) refl

pub state_start : (page : List ℕ) → leaf_state page 0 ≡ initial_hash_256
unfolding leaf_state hash_after
state_start page = refl

pub state_next : (page : List ℕ) (i : ℕ) → leaf_state page (i + 1) ≡ compress (leaf_state page i) (leaf_block page i)
unfolding leaf_state leaf_block
state_next page i = hash_after_next initial_hash_256 (leaf_text page) i

pub state_end : (page : List ℕ) → length page ≡ 4096 → digest_bytes (leaf_state page 65) 8 ≡ sha256 (0 ∷ page)
unfolding leaf_state leaf_text
state_end page long = sym (hash_of_blocks (0 ∷ page) 65 (omega (arith, length_padded (0 ∷ page))))

pub page_length : (pages : List ℕ) (j : ℕ) → 4096 * j + 4096 ≤ length pages → length (slice_range pages (4096 * j) (4096 * j + 4096)) ≡ 4096
page_length pages j within =
    let size : 4096 * j + 4096 - 4096 * j ≡ 4096 = omega arith in
    rw size (length-take-le 4096 (drop (4096 * j) pages) (omega (arith, length-drop (4096 * j) pages)))
