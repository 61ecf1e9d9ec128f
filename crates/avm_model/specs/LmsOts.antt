-- One-time keys and signatures: LM-OTS of RFC 8554.
use Rattle.std.specs.Prelude.{ℕ, zero, suc, ◌+◌, ◌-◌, ◌*◌, ◌^◌, List, [], ◌∷◌, ◌++◌, take, drop, length, Option, Some, None, if◌then◌else◌, ◌==◌, ◌&&◌}
use Rattle.std.specs.Int.{w16, w32, to_be_bytes, from_be_bytes}
use Rattle.avm_model.specs.Hash.{hash_of}
use Rattle.avm_model.specs.LmsTypes.{width_of, chains_of}
use Rattle.avm_model.specs.LmsDigits.{coef, marked}

-- I || u32str(q), at the front of each text that is hashed (section 4.3)
abbrev pub base_of : List ℕ → ℕ → List ℕ
base_of id q = id ++ to_be_bytes w32 q

-- I || u32str(q) || u16str(i), at the front of each step of chain i (section 4.3)
abbrev pub head_of : List ℕ → ℕ → List ℕ
head_of base i = base ++ to_be_bytes w16 i

-- H(I || u32str(q) || u16str(i) || u8str(j) || tmp), one step of a chain (section 4.3)
abbrev pub step : List ℕ → ℕ → List ℕ → List ℕ
step head j x = hash_of (head ++ (j ∷ x))

-- steps a to a + n - 1 of a chain, in order (section 4.3)
abbrev pub chain : List ℕ → ℕ → ℕ → List ℕ → List ℕ
chain head a zero x = x
chain head a (suc n) x = step head (a + n) (chain head a n x)

-- x[i], a private value made from the seed (appendix A)
abbrev pub secret : List ℕ → ℕ → List ℕ → List ℕ
secret base i seed = step (head_of base i) 255 seed

-- f(0) || .. || f(n-1)
abbrev pub joined : (ℕ → List ℕ) → ℕ → List ℕ
joined f zero = []
joined f (suc n) = joined f n ++ f n

-- H(I || u32str(q) || u16str(D_PBLC) || y[0] || .. || y[p-1]) (section 4.3)
abbrev pub compressed : ℕ → List ℕ → (ℕ → List ℕ) → List ℕ
compressed ots base y = hash_of (base ++ (128 ∷ 128 ∷ joined y (chains_of ots)))

-- y[i], the end of chain i of a private key (section 4.3)
abbrev pub end_of : ℕ → List ℕ → List ℕ → ℕ → List ℕ
end_of ots base seed i = chain (head_of base i) 0 (2 ^ width_of ots - 1) (secret base i seed)

-- K, the one-time public key of leaf q (section 4.3, algorithm 1)
abbrev pub ots_public : ℕ → List ℕ → ℕ → List ℕ → List ℕ
ots_public ots id q seed = compressed ots (base_of id q) (end_of ots (base_of id q) seed)

-- C, the randomizer. The standard wants it random (section 4.5); here it is made from the seed as a private value is,
-- at i = 65533, so that a text at a leaf has one signature
abbrev pub randomizer : List ℕ → List ℕ → List ℕ
randomizer base seed = secret base 65533 seed

-- Q = H(I || u32str(q) || u16str(D_MESG) || C || message) (section 4.5)
abbrev pub digest_of : List ℕ → List ℕ → List ℕ → List ℕ
digest_of base c text = hash_of (base ++ (129 ∷ 129 ∷ (c ++ text)))

-- y[i] of a signature: chain i, taken as many steps as digit i of m = Q || Cksm(Q) says (section 4.5)
abbrev pub shown_of : ℕ → List ℕ → List ℕ → List ℕ → ℕ → List ℕ
shown_of ots base seed m i = chain (head_of base i) 0 (coef m i (width_of ots)) (secret base i seed)

-- u32str(type) || C || y[0] || .. || y[p-1] (section 4.5, algorithm 3)
abbrev pub ots_signature : ℕ → List ℕ → ℕ → List ℕ → List ℕ → List ℕ
ots_signature ots id q seed text =
    let base = base_of id q in
    let c = randomizer base seed in
    to_be_bytes w32 ots ++ (c ++ joined (shown_of ots base seed (marked ots (digest_of base c text))) (chains_of ots))

-- y[i] of a signature that is read (section 4.6)
abbrev pub piece_of : List ℕ → ℕ → List ℕ
piece_of sig i = take 32 (drop (36 + 32 * i) sig)

-- z[i], the rest of chain i (section 4.6, algorithm 4b)
abbrev pub reached_of : ℕ → List ℕ → List ℕ → List ℕ → ℕ → List ℕ
reached_of ots base m sig i =
    chain (head_of base i) (coef m i (width_of ots)) (2 ^ width_of ots - 1 - coef m i (width_of ots)) (piece_of sig i)

-- Kc, the one-time public key that a signature gives (section 4.6, algorithm 4b)
abbrev pub candidate_key : ℕ → List ℕ → ℕ → List ℕ → List ℕ → List ℕ
candidate_key ots id q text sig =
    let base = base_of id q in
    compressed ots base (reached_of ots base (marked ots (digest_of base (take 32 (drop 4 sig)) text)) sig)

-- Kc, or none where the type or the length is wrong (section 4.6, algorithm 4b)
abbrev pub candidate_of : ℕ → List ℕ → ℕ → List ℕ → List ℕ → Option (List ℕ)
candidate_of ots id q text sig =
    if (length sig == 36 + 32 * chains_of ots) && (from_be_bytes w32 (take 4 sig) == ots)
    then Some (candidate_key ots id q text sig) else None
